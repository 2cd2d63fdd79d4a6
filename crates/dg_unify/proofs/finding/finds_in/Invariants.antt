use Rattle.std.proofs.Common.{◌≡◌, List}
use Rattle.dg_unify.specs.Store.{Saved}
use Rattle.dg_unify.proofs.FindLemmas.{Searching, left_in}
use Rattle.dg_unify.proofs.finding.finds_in.Given as goal

abbrev pub invariant-parts : goal.invariant-parts
invariant-parts g l = record {
  same : g.B.Bindings.meaning l.store ≡ g.B.Bindings.meaning l.fn.store;
  saved : (ms : List Saved) → g.B.Bindings.saves l.fn.store ms → g.B.Bindings.saves l.store ms;
  search : Searching (g.B.Bindings.meaning l.fn.store) l.fn.x l.fn.at (g.B.Bindings.waits l.fn.store) (g.B.Bindings.waits l.store) l.parts l.seen;
}

abbrev pub decreases-parts : goal.decreases-parts
decreases-parts g l = left_in (g.B.Bindings.meaning l.fn.store) l.parts (g.B.Bindings.waits l.store)
