use Rattle.std.proofs.Common.{◌≡◌, ◌+◌, List}
use Rattle.dg_unify.specs.Store.{Saved}
use Rattle.dg_texts.specs.Printing.{named}
use Rattle.dg_interp.specs.inside.Showing.{part_size, parts_size}
use Rattle.dg_interp.proofs.Pieces.{Telling}
use Rattle.dg_interp.proofs.output.print_parts.Given as goal

abbrev pub invariant-parts : goal.invariant-parts
invariant-parts g l = record {
  same : g.B.Bindings.meaning l.store ≡ g.B.Bindings.meaning l.fn.store;
  saved : (ms : List Saved) → g.B.Bindings.saves l.fn.store ms → g.B.Bindings.saves l.store ms;
  telling : Telling g.A.Showing.watching (g.B.Bindings.meaning l.fn.store) (named l.words l.objects) l.fn.value l.part l.output.parts.items l.fn.output.printer.spacer l.output.printer.spacer (l.fn.output.printer.showing, l.fn.sink) (l.output.printer.showing, l.sink);
}

abbrev pub decreases-parts : goal.decreases-parts
decreases-parts g l = part_size (g.B.Bindings.meaning l.fn.store) l.part + parts_size (g.B.Bindings.meaning l.fn.store) l.output.parts.items
