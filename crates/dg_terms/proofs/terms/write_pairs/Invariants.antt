use Rattle.std.proofs.Common.{◌≡◌, ◌*◌, ◌≤◌, ◌++◌, List, length, drop, map}
use Rattle.std.specs.List.{All}
use Rattle.dg_unify.specs.Store.{Saved, Kept, Made, told, Holds}
use Rattle.dg_unify.specs.declared.bindings.Ref.{Ref}
use Rattle.dg_terms.specs.Terms.{listed}
use Rattle.dg_terms.proofs.terms.write_pairs.Given as goal

abbrev pub invariant-heads : goal.invariant-heads
invariant-heads g l = record {
  kept : Kept (g.B.Bindings.meaning l.fn.store) (g.B.Bindings.meaning l.store);
  saved : (ms : List Saved) → g.B.Bindings.saves l.fn.store ms → g.B.Bindings.saves l.store ms;
  rest : List Ref;
  is : l.fn.from.items ≡ l.from.items ++ rest;
  height : l.height ≤ length l.from.items;
  hold : All (Holds (g.B.Bindings.meaning l.fn.store)) (drop l.height l.from.items);
  made : Made (3 * length rest) (g.B.Bindings.meaning l.fn.store) (g.B.Bindings.meaning l.store) l.list (listed (map (told (g.B.Bindings.meaning l.fn.store)) rest) (told (g.B.Bindings.meaning l.fn.store) l.fn.tail));
}

abbrev pub decreases-heads : goal.decreases-heads
decreases-heads g l = length l.from.items
