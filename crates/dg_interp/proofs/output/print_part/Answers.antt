use Rattle.std.proofs.Common.{true, false, refl, subst, [], ◌∷◌}
use Rattle.dg_texts.specs.Printing.{named}
use Rattle.dg_watch.specs.Rows.{bytes_of}
use Rattle.dg_interp.specs.inside.Showing.{ShowsAll, BreaksSo, as_events, part_pieces}
use Rattle.dg_interp.proofs.Runs.{shows_nothing, shows_front}
use Rattle.dg_interp.proofs.Pieces.{part_breaks}
use Rattle.dg_interp.proofs.output.print_part.Goals as goal

pub returns-in-Err-clause-printed : goal.returns-in-Err-clause-printed
returns-in-Err-clause-printed g c = shows_front g.A.Showing.watching (as_events (part_pieces (g.B.Bindings.meaning c.args.store.now) (named c.args.words.now c.args.objects.now) c.args.part)) c.args.output.now.printer.spacer c.args.output.now.printer.spacer (c.args.output.now.printer.showing, c.args.sink.now) (c.args.output.now.printer.showing, c.args.sink.now) refl refl

pub returns-in-Ok-false-clause-printed : goal.returns-in-Ok-false-clause-printed
returns-in-Ok-false-clause-printed g c = record {
  some = false;
  piece = bytes_of c.take_part.new.row;
  takes = rw c.in-Ok-false.field-0-test at c.in-Ok-false.ensures.taken;
  shown = shows_nothing g.A.Showing.watching c.args.output.now.printer.spacer (c.args.output.now.printer.showing, c.args.sink.now);
}

pub returns-in-Ok-clause-printed : goal.returns-in-Ok-clause-printed
returns-in-Ok-clause-printed g c = record {
  some = true;
  piece = bytes_of c.take_part.new.row;
  takes = rw c.in-Ok-true.field-0-test at c.in-Ok-true.ensures.taken;
  shown = subst (λ l. ShowsAll g.A.Showing.watching (as_events (l ∷ [])) c.args.output.now.printer.spacer c.print_one.new.printer.spacer (c.args.output.now.printer.showing, c.args.sink.now) (c.print_one.new.printer.showing, c.print_one.new.sink)) c.bytes.ensures c.in-Ok.ensures;
}

pub returns-in-Err-print_one-clause-printed : goal.returns-in-Err-print_one-clause-printed
returns-in-Err-print_one-clause-printed g c =
    part_breaks g.A.Showing.watching (g.B.Bindings.meaning c.args.store.now) (named c.args.words.now c.args.objects.now) c.args.part c.args.output.now.parts.items c.take_part.new.parts.items (bytes_of c.take_part.new.row) c.args.output.now.printer.spacer c.print_one.new.printer.spacer (c.args.output.now.printer.showing, c.args.sink.now) (c.print_one.new.printer.showing, c.print_one.new.sink) c.in-Err-print_one.fault
    (rw c.in-Ok-true.field-0-test at c.in-Ok-true.ensures.taken)
    (subst (λ l. BreaksSo g.A.Showing.watching c.in-Err-print_one.fault (as_events (l ∷ [])) c.args.output.now.printer.spacer c.print_one.new.printer.spacer (c.args.output.now.printer.showing, c.args.sink.now) (c.print_one.new.printer.showing, c.print_one.new.sink)) c.bytes.ensures c.in-Err-print_one.ensures)
