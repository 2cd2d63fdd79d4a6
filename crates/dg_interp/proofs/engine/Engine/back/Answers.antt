use Rattle.std.proofs.Common.{refl, arith, ◌≤◌}
use Rattle.dg_meaning.specs.Path.{Failing}
use Rattle.dg_interp.specs.inside.Engine.{FailsAt, store_in, branches_left}
use Rattle.dg_interp.proofs.Places.{silent, leads_nowhere, limits_here}
use Rattle.dg_interp.proofs.Branches.{went_on_by, went_wrong_by, ended_by, full_by}
use Rattle.dg_interp.proofs.engine.Engine.back.Goals as goal

pub choices-init : goal.choices-init
choices-init c = record {
  wrong = record { sound = c.requires.sound; left = refl; limits = silent (limits_here c.args.self.now); leads = leads_nowhere (FailsAt c.args.self.now) };
  fewer = omega arith;
}

pub returns-in-Err-clause-full : goal.returns-in-Err-clause-full
returns-in-Err-clause-full c =
    let w = c.choices.invariant.wrong in
    full_by w.limits.calls (FailsAt c.args.self.now) (FailsAt c.choices.self) (store_in c.args.self.now.store) (store_in c.choices.self.store) c.in-Err.e w.limits.heap w.limits.trail w.leads c.in-Err.ensures.full

pub returns-in-Ok-None-clause-back : goal.returns-in-Ok-None-clause-back
returns-in-Ok-None-clause-back c =
    let w = c.choices.invariant.wrong in
    ended_by (FailsAt c.args.self.now) (FailsAt c.choices.self) Failing c.args.self.now c.choices.self c.retry.new.self w.left w.limits w.leads (rw c.in-Ok-None.field-0-is at c.in-Ok-None.ensures.retried)

pub returns-in-Ok-Some-true-clause-back : goal.returns-in-Ok-Some-true-clause-back
returns-in-Ok-Some-true-clause-back c =
    let w = c.choices.invariant.wrong in
    let before : branches_left c.choices.self ≤ branches_left c.args.self.now = c.choices.invariant.fewer in
    let h = rw c.in-Ok-Some-true.field-0-0-test at (rw c.in-Ok-Some-true.field-0-is at c.in-Ok-Some-true.ensures.retried) in
    (went_on_by (FailsAt c.args.self.now) (FailsAt c.choices.self) c.args.self.now c.choices.self c.retry.new.self w.left w.limits w.leads h.0, omega (arith, h.1, before))

pub choices-preserved : goal.choices-preserved
choices-preserved c =
    let w = c.choices.invariant.wrong in
    let before : branches_left c.choices.self ≤ branches_left c.args.self.now = c.choices.invariant.fewer in
    let h = rw c.in-Ok-Some-false.field-0-0-test at (rw c.in-Ok-Some-false.field-0-is at c.in-Ok-Some-false.ensures.retried) in
    record {
      wrong = went_wrong_by (FailsAt c.args.self.now) (FailsAt c.choices.self) c.args.self.now c.choices.self c.retry.new.self w.left w.limits w.leads h.0;
      fewer = omega (arith, h.1, before);
    }

pub choices-smaller : goal.choices-smaller
choices-smaller c =
    let h = rw c.in-Ok-Some-false.field-0-0-test at (rw c.in-Ok-Some-false.field-0-is at c.in-Ok-Some-false.ensures.retried) in
    h.1
