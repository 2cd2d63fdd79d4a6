use Rattle.std.proofs.Common.{◌≤◌, List, drop, length}
use Rattle.dg_unify.specs.Store.{Saved}
use Rattle.dg_lists.specs.Reading.{HasRead}
use Rattle.dg_lists.proofs.reading.read_cells.Given as goal

abbrev pub invariant-cells : goal.invariant-cells
invariant-cells g l = record {
  at : l.at ≤ length l.cells;
  top : l.top ≤ length l.row;
  saved : (ms : List Saved) → g.B.Bindings.saves l.fn.store ms → g.B.Bindings.saves l.store ms;
  read : HasRead (g.B.Bindings.meaning l.fn.store) (g.B.Bindings.meaning l.store) (drop l.at l.cells) (drop l.top l.row);
}

abbrev pub decreases-cells : goal.decreases-cells
decreases-cells g l = l.at
