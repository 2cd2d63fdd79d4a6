use Rattle.std.proofs.Common.{refl, suc, sym, subst, ◌∙◌, ap}
use Rattle.std.specs.Prelude.{Err}
use Rattle.dg_base.specs.declared.program.Goal.TheVariants.{Print}
use Rattle.dg_interp.specs.inside.Engine.{TakesAt, pieces_at}
use Rattle.dg_interp.specs.inside.Showing.{ShowsAll, as_events}
use Rattle.dg_interp.proofs.Places.{same_limits}
use Rattle.dg_interp.proofs.Runs.{same_on, shown_done, shown_breaks, lack_from}
use Rattle.dg_interp.proofs.Doing.{value_then, goal_does, goal_breaks}
use Rattle.dg_interp.proofs.Waiting.{wrote_still, pieces_still}
use Rattle.dg_interp.proofs.run.print_term.Goals as goal

pub returns-in-Err-clause-ok : goal.returns-in-Err-clause-ok
returns-in-Err-clause-ok g c = λ old source some taken.
    goal_does g.A.Showing.watching (Print c.args.term.now) old c.args.engine.now c.args.output.now.printer.spacer (c.args.output.now.printer.showing, c.args.sink.now) source some taken c.requires.quiet c.write_printed.new.self c.outcome.new.engine c.outcome.new.output.printer.spacer c.outcome.ensures.spacer (c.outcome.new.output.printer.showing, c.outcome.new.sink) c.outcome.result c.write_printed.ensures.left (Err c.lacking.result) c.outcome.ensures.comes tt
    (rw c.lacking.ensures (lack_from (TakesAt (Print c.args.term.now) c.args.engine.now) c.args.engine.now c.in-Err.full c.in-Err.ensures.full))

pub returns-in-Err-clause-err : goal.returns-in-Err-clause-err
returns-in-Err-clause-err g c = λ old source some taken.
    goal_breaks g.A.Showing.watching (Print c.args.term.now) old c.args.engine.now c.args.output.now.printer.spacer (c.args.output.now.printer.showing, c.args.sink.now) source some taken c.requires.quiet c.write_printed.new.self c.outcome.new.engine c.outcome.new.output.printer.spacer c.outcome.ensures.spacer (c.outcome.new.output.printer.showing, c.outcome.new.sink) c.outcome.result c.write_printed.ensures.left (Err c.lacking.result) c.outcome.ensures.comes tt

pub returns-in-Ok-print-clause-ok : goal.returns-in-Ok-print-clause-ok
returns-in-Ok-print-clause-ok g c = λ old source some taken.
    let mid = c.write_printed.new.self in
    let new = c.print.new.self in
    let value = c.in-Ok.value in
    let stays = c.in-Ok-print.ensures.stays in
    let wrote = wrote_still mid new stays c.args.term.now value c.args.engine.now c.in-Ok.ensures.written in
    shown_done g.A.Showing.watching old new c.args.output.now.printer.spacer c.print.new.output.printer.spacer (c.args.output.now.printer.showing, c.args.sink.now) (c.print.new.output.printer.showing, c.print.new.sink) source (as_events (pieces_at new value)) (taken.left ∙ ap suc (sym wrote.left)) (value_then (Print c.args.term.now) c.args.term.now value old c.args.engine.now new taken refl wrote)
    wrote.ready (same_on old c.args.engine.now new (same_limits taken.limits) (same_limits wrote.limits)) (wrote.limits.told ∙ c.requires.quiet)
    (subst (λ ps. ShowsAll g.A.Showing.watching (as_events ps) c.args.output.now.printer.spacer c.print.new.output.printer.spacer (c.args.output.now.printer.showing, c.args.sink.now) (c.print.new.output.printer.showing, c.print.new.sink)) (pieces_still mid new stays value) c.in-Ok-print.ensures.printed)

pub returns-in-Err-print-clause-err : goal.returns-in-Err-print-clause-err
returns-in-Err-print-clause-err g c = λ old source some taken.
    let mid = c.write_printed.new.self in
    let value = c.in-Ok.value in
    let wrote = c.in-Ok.ensures.written in
    shown_breaks g.A.Showing.watching old mid c.args.output.now.printer.spacer c.print.new.output.printer.spacer (c.args.output.now.printer.showing, c.args.sink.now) (c.print.new.output.printer.showing, c.print.new.sink) source (as_events (pieces_at mid value)) (taken.left ∙ ap suc (sym wrote.left)) (value_then (Print c.args.term.now) c.args.term.now value old c.args.engine.now mid taken refl wrote)
    some c.in-Err-print.fault c.in-Err-print.ensures.printed
