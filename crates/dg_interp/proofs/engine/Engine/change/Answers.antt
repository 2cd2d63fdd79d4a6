use Rattle.std.proofs.Common.{ap, sym, subst, ◌∙◌}
use Rattle.std.specs.Prelude.{Ok}
use Rattle.dg_base.specs.declared.program.Goal.TheVariants.{Now}
use Rattle.dg_interp.specs.inside.Engine.{TakesAt, FailsAt, LackAt, Branches, store_in}
use Rattle.dg_interp.proofs.Changes.{now_held, made_hold, changed_ready, changed_limits, changed_left, changed_on, changed_not, changed_full}
use Rattle.dg_interp.proofs.Giving.{written_full}
use Rattle.dg_interp.proofs.Branches.{full_made, back_made}
use Rattle.dg_interp.proofs.Runs.{lack_from, stored_done, stored_lacks}
use Rattle.dg_interp.proofs.engine.Engine.change.Goals as goal

pub returns-in-Err-clause-lacks : goal.returns-in-Err-clause-lacks
returns-in-Err-clause-lacks c =
    let x = Now c.args.place c.args.terms.now c.args.sets in
    subst (LackAt (TakesAt x c.args.self.now) c.args.self.now) (sym c.lacking.ensures)
    (lack_from (TakesAt x c.args.self.now) c.args.self.now c.in-Err.full (written_full x c.args.terms.now (now_held c.args.place c.args.terms.now c.args.sets) c.args.self.now c.in-Err.full c.in-Err.ensures.full))

pub change_made-requires : goal.change_made-requires
change_made-requires c = made_hold c.args.terms.now c.args.self.now c.make_args.new.self c.in-Ok.ensures.made

pub back-requires : goal.back-requires
back-requires c = record { sound = (changed_ready c.args.place c.args.terms.now c.args.sets c.args.self.now c.make_args.new.self c.change_made.new.self c.requires.ready c.in-Ok.ensures.made c.change_made.result c.change_made.ensures).sound }

pub returns-in-Err-change_made-clause-lacks : goal.returns-in-Err-change_made-clause-lacks
returns-in-Err-change_made-clause-lacks c =
    changed_full c.args.place c.args.terms.now c.args.sets c.args.self.now c.make_args.new.self c.change_made.new.self c.requires.ready c.in-Ok.ensures.made c.change_made.result c.change_made.ensures c.in-Err-change_made.field-0 c.in-Err-change_made.is

pub returns-in-Ok-true-clause-done : goal.returns-in-Ok-true-clause-done
returns-in-Ok-true-clause-done c =
    changed_on c.args.place c.args.terms.now c.args.sets c.args.self.now c.make_args.new.self c.change_made.new.self c.requires.ready c.in-Ok.ensures.made c.change_made.result c.change_made.ensures (c.in-Ok-true.is ∙ ap Ok c.in-Ok-true.field-0-test)

pub returns-in-Ok-false-clause-done : goal.returns-in-Ok-false-clause-done
returns-in-Ok-false-clause-done c =
    let old = c.args.self.now in
    let mid = c.make_args.new.self in
    let new = c.change_made.new.self in
    let x = Now c.args.place c.args.terms.now c.args.sets in
    rw c.stored.ensures (stored_done (λ found. Branches (TakesAt x old) found old c.back.new.self) c.back.result
    (back_made (TakesAt x old) (FailsAt new) old new c.back.new.self
    (changed_left c.args.place c.args.terms.now c.args.sets old mid new c.requires.ready c.in-Ok.ensures.made c.change_made.result c.change_made.ensures)
    (changed_limits c.args.place c.args.terms.now c.args.sets old mid new c.requires.ready c.in-Ok.ensures.made c.change_made.result c.change_made.ensures)
    (changed_not c.args.place c.args.terms.now c.args.sets old mid new c.requires.ready c.in-Ok.ensures.made c.change_made.result c.change_made.ensures (c.in-Ok-false.is ∙ ap Ok c.in-Ok-false.field-0-test)) c.back.result c.back.ensures.back))

pub returns-in-Ok-false-clause-lacks : goal.returns-in-Ok-false-clause-lacks
returns-in-Ok-false-clause-lacks c =
    let old = c.args.self.now in
    let mid = c.make_args.new.self in
    let new = c.change_made.new.self in
    let x = Now c.args.place c.args.terms.now c.args.sets in
    let limits = changed_limits c.args.place c.args.terms.now c.args.sets old mid new c.requires.ready c.in-Ok.ensures.made c.change_made.result c.change_made.ensures in
    rw c.stored.ensures (stored_lacks (TakesAt x old) old c.back.result
    (full_made (TakesAt x old) (FailsAt new) (store_in old.store) (store_in new.store) c.back.result limits.heap limits.trail
    (changed_not c.args.place c.args.terms.now c.args.sets old mid new c.requires.ready c.in-Ok.ensures.made c.change_made.result c.change_made.ensures (c.in-Ok-false.is ∙ ap Ok c.in-Ok-false.field-0-test)) c.back.ensures.full))
