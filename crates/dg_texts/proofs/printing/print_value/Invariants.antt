use Rattle.std.proofs.Common.{◌≡◌, List}
use Rattle.dg_unify.specs.Store.{Saved}
use Rattle.dg_texts.specs.Printing.{named}
use Rattle.dg_texts.proofs.PrintLemmas.{Printing, to_print}
use Rattle.dg_texts.proofs.printing.print_value.Given as goal

abbrev pub invariant-parts : goal.invariant-parts
invariant-parts g l = record {
  same : g.B.Bindings.meaning l.store ≡ g.B.Bindings.meaning l.fn.store;
  saved : (ms : List Saved) → g.B.Bindings.saves l.fn.store ms → g.B.Bindings.saves l.store ms;
  printing : Printing (g.B.Bindings.meaning l.fn.store) (named l.words l.objects) l.fn.value l.next (g.B.Bindings.waits l.store) l.fn.spacer l.spacer (g.K.Sink.view l.fn.sink) (g.K.Sink.view l.sink);
}

abbrev pub decreases-parts : goal.decreases-parts
decreases-parts g l = to_print (g.B.Bindings.meaning l.fn.store) l.next (g.B.Bindings.waits l.store)
