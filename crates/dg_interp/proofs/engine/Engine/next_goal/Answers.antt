use Rattle.dg_base.specs.declared.run.Ending.TheVariants.{Done}
use Rattle.dg_meaning.specs.Path.{Failing, End}
use Rattle.dg_interp.specs.inside.Engine.{FailsAt, StandsAt, store_in}
use Rattle.dg_interp.proofs.Places.{went_nowhere, went_wrong}
use Rattle.dg_interp.proofs.Runs.{lack_from}
use Rattle.dg_interp.proofs.Gathered.{lacks_by}
use Rattle.dg_interp.proofs.Branches.{at_goal_from, refused_on, ended_by, full_by}
use Rattle.dg_interp.proofs.engine.Engine.next_goal.Goals as goal

pub answers-init : goal.answers-init
answers-init c = went_nowhere c.args.self.now c.requires.ready

pub returns-in-Ok-Goal-clause-next : goal.returns-in-Ok-Goal-clause-next
returns-in-Ok-Goal-clause-next c = at_goal_from (StandsAt c.args.self.now) c.args.self.now c.answers.self c.settle.new.self c.answers.invariant (rw c.in-Ok-Goal.field-0-is at c.in-Ok-Goal.ensures.settles)

pub returns-in-Ok-Done-clause-next : goal.returns-in-Ok-Done-clause-next
returns-in-Ok-Done-clause-next c =
    let w = c.answers.invariant in
    ended_by (StandsAt c.args.self.now) (StandsAt c.answers.self) (End Done) c.args.self.now c.answers.self c.settle.new.self w.left w.limits w.leads (rw c.in-Ok-Done.field-0-is at c.in-Ok-Done.ensures.settles)

pub returns-in-Err-back-clause-lacks : goal.returns-in-Err-back-clause-lacks
returns-in-Err-back-clause-lacks c =
    let w = went_wrong (StandsAt c.args.self.now) c.args.self.now c.answers.self c.settle.new.self c.answers.invariant (rw c.in-Ok-Refused.field-0-is at c.in-Ok-Refused.ensures.settles).wrong in
    rw c.lacking.ensures
    (lack_from (StandsAt c.args.self.now) c.args.self.now c.in-Err-back.full
    (full_by w.limits.calls (StandsAt c.args.self.now) (FailsAt c.settle.new.self) (store_in c.args.self.now.store) (store_in c.settle.new.self.store) c.in-Err-back.full w.limits.heap w.limits.trail w.leads c.in-Err-back.ensures.full))

pub returns-in-Ok-false-clause-next : goal.returns-in-Ok-false-clause-next
returns-in-Ok-false-clause-next c =
    let w = went_wrong (StandsAt c.args.self.now) c.args.self.now c.answers.self c.settle.new.self c.answers.invariant (rw c.in-Ok-Refused.field-0-is at c.in-Ok-Refused.ensures.settles).wrong in
    ended_by (StandsAt c.args.self.now) (FailsAt c.settle.new.self) Failing c.args.self.now c.settle.new.self c.back.new.self w.left w.limits w.leads (rw c.in-Ok-false.field-0-test at c.in-Ok-false.ensures.back)

pub answers-preserved : goal.answers-preserved
answers-preserved c =
    refused_on (StandsAt c.args.self.now) c.args.self.now c.answers.self c.settle.new.self c.back.new.self c.answers.invariant (rw c.in-Ok-Refused.field-0-is at c.in-Ok-Refused.ensures.settles).wrong (rw c.in-Ok-true.field-0-test at c.in-Ok-true.ensures.back).0

pub returns-in-Err-clause-lacks : goal.returns-in-Err-clause-lacks
returns-in-Err-clause-lacks c =
    let w = c.answers.invariant in
    lacks_by (StandsAt c.args.self.now) (StandsAt c.answers.self) c.args.self.now c.answers.self w.limits w.leads c.in-Err.lack c.in-Err.ensures.lacks
