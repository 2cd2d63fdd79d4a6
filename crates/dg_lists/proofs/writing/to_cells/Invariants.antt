use Rattle.std.proofs.Common.{◌≡◌, List}
use Rattle.dg_unify.specs.Store.{Saved}
use Rattle.dg_unify.proofs.FindLemmas.{left_in}
use Rattle.dg_lists.proofs.WriteLemmas.{Writing}
use Rattle.dg_lists.proofs.writing.to_cells.Given as goal

abbrev pub invariant-parts : goal.invariant-parts
invariant-parts g l = record {
  same : g.B.Bindings.meaning l.store ≡ g.B.Bindings.meaning l.fn.store;
  saved : (ms : List Saved) → g.B.Bindings.saves l.fn.store ms → g.B.Bindings.saves l.store ms;
  writing : Writing (g.B.Bindings.meaning l.fn.store) l.fn.value l.row l.filled l.parts (g.B.Bindings.waits l.store);
}

abbrev pub decreases-parts : goal.decreases-parts
decreases-parts g l = left_in (g.B.Bindings.meaning l.fn.store) l.parts (g.B.Bindings.waits l.store)
