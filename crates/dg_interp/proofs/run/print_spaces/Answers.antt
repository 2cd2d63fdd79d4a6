use Rattle.std.proofs.Common.{suc, sym, subst, ◌∙◌, None, Some, ◌∷◌, [], ap}
use Rattle.std.specs.Prelude.{Err}
use Rattle.dg_base.specs.declared.program.Goal.TheVariants.{GapN}
use Rattle.dg_meaning.specs.World.{SpacesOf, Prints}
use Rattle.dg_interp.specs.inside.Engine.{store_in, FailsAt, TakesAt, Branches}
use Rattle.dg_interp.specs.inside.Giving.{TellsSpaces}
use Rattle.dg_interp.proofs.Branches.{full_made_by, back_by}
use Rattle.dg_interp.proofs.Places.{same_limits}
use Rattle.dg_interp.proofs.Runs.{same_on, shown_done, shown_breaks, lack_from, stored_done, stored_lacks}
use Rattle.dg_interp.proofs.Doing.{goal_does, goal_breaks}
use Rattle.dg_interp.proofs.Spaces.{spaces_then}
use Rattle.dg_interp.proofs.run.print_spaces.Goals as goal

pub returns-in-Err-clause-ok : goal.returns-in-Err-clause-ok
returns-in-Err-clause-ok g c = λ old source some taken.
    goal_does g.A.Showing.watching (GapN c.args.term.now) old c.args.engine.now c.args.output.now.printer.spacer (c.args.output.now.printer.showing, c.args.sink.now) source some taken c.requires.quiet c.spaces.new.self c.outcome.new.engine c.outcome.new.output.printer.spacer c.outcome.ensures.spacer (c.outcome.new.output.printer.showing, c.outcome.new.sink) c.outcome.result c.spaces.ensures.left (Err c.lacking.result) c.outcome.ensures.comes tt
    (rw c.lacking.ensures (lack_from (TakesAt (GapN c.args.term.now) c.args.engine.now) c.args.engine.now c.in-Err.full c.in-Err.ensures.full))

pub returns-in-Err-clause-err : goal.returns-in-Err-clause-err
returns-in-Err-clause-err g c = λ old source some taken.
    goal_breaks g.A.Showing.watching (GapN c.args.term.now) old c.args.engine.now c.args.output.now.printer.spacer (c.args.output.now.printer.showing, c.args.sink.now) source some taken c.requires.quiet c.spaces.new.self c.outcome.new.engine c.outcome.new.output.printer.spacer c.outcome.ensures.spacer (c.outcome.new.output.printer.showing, c.outcome.new.sink) c.outcome.result c.spaces.ensures.left (Err c.lacking.result) c.outcome.ensures.comes tt

pub returns-in-Ok-None-clause-ok : goal.returns-in-Ok-None-clause-ok
returns-in-Ok-None-clause-ok g c = λ old source some taken.
    let wrong : TellsSpaces c.args.term.now None c.args.engine.now c.spaces.new.self = subst (λ o. TellsSpaces c.args.term.now o c.args.engine.now c.spaces.new.self) c.in-Ok-None.field-0-is c.in-Ok-None.ensures.told in
    goal_does g.A.Showing.watching (GapN c.args.term.now) old c.args.engine.now c.args.output.now.printer.spacer (c.args.output.now.printer.showing, c.args.sink.now) source some taken c.requires.quiet c.back.new.self c.outcome-in-Ok-None.new.engine c.outcome-in-Ok-None.new.output.printer.spacer c.outcome-in-Ok-None.ensures.spacer (c.outcome-in-Ok-None.new.output.printer.showing, c.outcome-in-Ok-None.new.sink) c.outcome-in-Ok-None.result (c.back.ensures.left ∙ c.spaces.ensures.left) c.stored-done.result c.outcome-in-Ok-None.ensures.comes
    (rw c.stored-done.ensures
    (stored_done (λ found. Branches (TakesAt (GapN c.args.term.now) c.args.engine.now) found c.args.engine.now c.back.new.self) c.back.result
    (back_by (TakesAt (GapN c.args.term.now) c.args.engine.now) (FailsAt c.spaces.new.self) c.args.engine.now c.spaces.new.self c.back.new.self wrong.left wrong.limits wrong.leads c.back.result c.back.ensures.back)))
    (rw c.stored-done.ensures
    (stored_lacks (TakesAt (GapN c.args.term.now) c.args.engine.now) c.args.engine.now c.back.result
    (full_made_by wrong.limits.calls (TakesAt (GapN c.args.term.now) c.args.engine.now) (FailsAt c.spaces.new.self) (store_in c.args.engine.now.store) (store_in c.spaces.new.self.store) c.back.result wrong.limits.heap wrong.limits.trail wrong.leads c.back.ensures.full)))

pub returns-in-Ok-None-clause-err : goal.returns-in-Ok-None-clause-err
returns-in-Ok-None-clause-err g c = λ old source some taken.
    let wrong : TellsSpaces c.args.term.now None c.args.engine.now c.spaces.new.self = subst (λ o. TellsSpaces c.args.term.now o c.args.engine.now c.spaces.new.self) c.in-Ok-None.field-0-is c.in-Ok-None.ensures.told in
    goal_breaks g.A.Showing.watching (GapN c.args.term.now) old c.args.engine.now c.args.output.now.printer.spacer (c.args.output.now.printer.showing, c.args.sink.now) source some taken c.requires.quiet c.back.new.self c.outcome-in-Ok-None.new.engine c.outcome-in-Ok-None.new.output.printer.spacer c.outcome-in-Ok-None.ensures.spacer (c.outcome-in-Ok-None.new.output.printer.showing, c.outcome-in-Ok-None.new.sink) c.outcome-in-Ok-None.result (c.back.ensures.left ∙ c.spaces.ensures.left) c.stored-done.result c.outcome-in-Ok-None.ensures.comes
    (rw c.stored-done.ensures
    (stored_done (λ found. Branches (TakesAt (GapN c.args.term.now) c.args.engine.now) found c.args.engine.now c.back.new.self) c.back.result
    (back_by (TakesAt (GapN c.args.term.now) c.args.engine.now) (FailsAt c.spaces.new.self) c.args.engine.now c.spaces.new.self c.back.new.self wrong.left wrong.limits wrong.leads c.back.result c.back.ensures.back)))

pub back-requires : goal.back-requires
back-requires g c =
    let wrong : TellsSpaces c.args.term.now None c.args.engine.now c.spaces.new.self = subst (λ o. TellsSpaces c.args.term.now o c.args.engine.now c.spaces.new.self) c.in-Ok-None.field-0-is c.in-Ok-None.ensures.told in
    record { sound = wrong.sound }

pub returns-in-Ok-clause-ok : goal.returns-in-Ok-clause-ok
returns-in-Ok-clause-ok g c = λ old source some taken.
    let wrote : TellsSpaces c.args.term.now (Some c.in-Ok-Some.count) c.args.engine.now c.spaces.new.self = subst (λ o. TellsSpaces c.args.term.now o c.args.engine.now c.spaces.new.self) c.in-Ok-Some.field-0-is c.in-Ok-Some.ensures.told in
    shown_done g.A.Showing.watching old c.spaces.new.self c.args.output.now.printer.spacer c.print_one.new.printer.spacer (c.args.output.now.printer.showing, c.args.sink.now) (c.print_one.new.printer.showing, c.print_one.new.sink) source (Prints (SpacesOf c.in-Ok-Some.count) ∷ []) (taken.left ∙ ap suc (sym wrote.left)) (spaces_then (GapN c.args.term.now) (SpacesOf c.in-Ok-Some.count) old c.args.engine.now c.spaces.new.self taken wrote)
    wrote.ready (same_on old c.args.engine.now c.spaces.new.self (same_limits taken.limits) (same_limits wrote.limits)) (wrote.limits.told ∙ c.requires.quiet) c.in-Ok.ensures

pub returns-in-Err-print_one-clause-err : goal.returns-in-Err-print_one-clause-err
returns-in-Err-print_one-clause-err g c = λ old source some taken.
    let wrote : TellsSpaces c.args.term.now (Some c.in-Ok-Some.count) c.args.engine.now c.spaces.new.self = subst (λ o. TellsSpaces c.args.term.now o c.args.engine.now c.spaces.new.self) c.in-Ok-Some.field-0-is c.in-Ok-Some.ensures.told in
    shown_breaks g.A.Showing.watching old c.spaces.new.self c.args.output.now.printer.spacer c.print_one.new.printer.spacer (c.args.output.now.printer.showing, c.args.sink.now) (c.print_one.new.printer.showing, c.print_one.new.sink) source (Prints (SpacesOf c.in-Ok-Some.count) ∷ []) (taken.left ∙ ap suc (sym wrote.left)) (spaces_then (GapN c.args.term.now) (SpacesOf c.in-Ok-Some.count) old c.args.engine.now c.spaces.new.self taken wrote)
    some c.in-Err-print_one.fault c.in-Err-print_one.ensures
