use Rattle.std.proofs.Common.{arith, ◌≤◌, ◌∙◌}
use Rattle.dg_interp.specs.inside.Engine.{StandsAt, branches_left}
use Rattle.dg_interp.proofs.Places.{went_nowhere, went_further, went_wrong, all_done}
use Rattle.dg_interp.proofs.Gathered.{lacks_by}
use Rattle.dg_interp.proofs.engine.Engine.settle.Goals as goal

pub loop-self-init : goal.loop-self-init
loop-self-init c = record { went_on = went_nowhere c.args.self.now c.requires.ready; fewer = omega arith }

pub returns-in-Err-clause-lacks : goal.returns-in-Err-clause-lacks
returns-in-Err-clause-lacks c =
    let w = c.loop-self.invariant.went_on in
    lacks_by (StandsAt c.args.self.now) (StandsAt c.loop-self.self) c.args.self.now c.loop-self.self w.limits w.leads c.in-Err.lack c.in-Err.ensures.lacks

pub returns-in-Err-clause-left : goal.returns-in-Err-clause-left
returns-in-Err-clause-left c = c.pass_mark.ensures.left ∙ c.loop-self.invariant.went_on.left

pub returns-in-Ok-false-clause-settles : goal.returns-in-Ok-false-clause-settles
returns-in-Ok-false-clause-settles c =
    let wrong = rw c.in-Ok-false.field-0-test at c.in-Ok-false.ensures.passed in
    let before : branches_left c.loop-self.self ≤ branches_left c.args.self.now = c.loop-self.invariant.fewer in
    record { wrong = went_wrong (StandsAt c.args.self.now) c.args.self.now c.loop-self.self c.pass_mark.new.self c.loop-self.invariant.went_on wrong.wrong; fewer = omega (arith, wrong.fewer, before) }

pub returns-in-Ok-false-clause-left : goal.returns-in-Ok-false-clause-left
returns-in-Ok-false-clause-left c = c.pass_mark.ensures.left ∙ c.loop-self.invariant.went_on.left

pub returns-then-self-eq0-clause-settles : goal.returns-then-self-eq0-clause-settles
returns-then-self-eq0-clause-settles c =
    let passed = rw c.in-Ok-true.field-0-test at c.in-Ok-true.ensures.passed in
    all_done (StandsAt c.args.self.now) c.args.self.now c.pass_mark.new.self (went_further (StandsAt c.args.self.now) c.args.self.now c.loop-self.self c.pass_mark.new.self c.loop-self.invariant.went_on passed.went_on)
    passed.goals passed.mark c.if-self-eq0.true

pub returns-then-self-eq0-clause-left : goal.returns-then-self-eq0-clause-left
returns-then-self-eq0-clause-left c = c.pass_mark.ensures.left ∙ c.loop-self.invariant.went_on.left

pub loop-self-preserved : goal.loop-self-preserved
loop-self-preserved c =
    let from = StandsAt c.args.self.now in
    let passed = rw c.in-Ok-true.field-0-test at c.in-Ok-true.ensures.passed in
    let before : branches_left c.loop-self.self ≤ branches_left c.args.self.now = c.loop-self.invariant.fewer in
    record {
      went_on = went_further from c.args.self.now c.pass_mark.new.self c.leave_frame.new.self
          (went_further from c.args.self.now c.loop-self.self c.pass_mark.new.self c.loop-self.invariant.went_on passed.went_on) c.leave_frame.ensures.left.went_on;
      fewer = omega (arith, c.leave_frame.ensures.left.fewer, passed.fewer, before);
    }
