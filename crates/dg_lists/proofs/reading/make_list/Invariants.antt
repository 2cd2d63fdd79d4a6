use Rattle.std.proofs.Common.{◌≤◌, List, drop, length}
use Rattle.dg_unify.specs.Store.{Saved}
use Rattle.dg_lists.specs.Reading.{ListMade}
use Rattle.dg_lists.proofs.reading.make_list.Given as goal

abbrev pub invariant-elements : goal.invariant-elements
invariant-elements g l = record {
  within : l.at ≤ length l.elements;
  saved : (ms : List Saved) → g.B.Bindings.saves l.fn.store ms → g.B.Bindings.saves l.store ms;
  made : ListMade (g.B.Bindings.meaning l.fn.store) (g.B.Bindings.meaning l.store) (drop l.at l.elements) l.list;
}

abbrev pub decreases-elements : goal.decreases-elements
decreases-elements g l = l.at
