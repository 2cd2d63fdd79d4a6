use Rattle.std.proofs.Common.{◌∷◌, [], Err, ap, sym, subst}
use Rattle.dg_meaning.specs.World.{Prints}
use Rattle.dg_spacing.specs.Gaps.{print_of}
use Rattle.dg_watch.specs.Watching.{Given, Lost}
use Rattle.dg_watch.proofs.Events.{growth_behind}
use Rattle.dg_interp.proofs.Runs.{shows_front}
use Rattle.dg_interp.proofs.output.print_one.Goals as goal

pub returns-in-Ok : goal.returns-in-Ok
returns-in-Ok g c = λ es h. record {
  stands = c.in-Ok.ensures.stands es h;
  given = subst (Given g.A.Showing.watching (c.args.printer.now.showing, c.args.sink.now) (c.print.new.printer.showing, c.print.new.sink)) (sym (growth_behind es (print_of c.args.event))) (c.in-Ok.ensures.ok es h);
}

pub returns-in-Err-Refused : goal.returns-in-Err-Refused
returns-in-Err-Refused g c = λ es h.
    subst (Lost g.A.Showing.watching (c.args.printer.now.showing, c.args.sink.now) (c.print.new.printer.showing, c.print.new.sink)) (sym (growth_behind es (print_of c.args.event))) (c.in-Err-Refused.ensures.refused (ap Err c.in-Err-Refused.field-0-is) es h)

pub returns-in-Err-OutOfMemory : goal.returns-in-Err-OutOfMemory
returns-in-Err-OutOfMemory g c =
    let same = c.in-Err-OutOfMemory.ensures.memory (ap Err c.in-Err-OutOfMemory.field-0-is) in
    shows_front g.A.Showing.watching (Prints (print_of c.args.event) ∷ []) c.args.printer.now.spacer c.print.new.printer.spacer (c.args.printer.now.showing, c.args.sink.now) (c.print.new.printer.showing, c.print.new.sink) same.0 (cc (same.1, same.2))
