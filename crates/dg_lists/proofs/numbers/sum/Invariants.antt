use Rattle.std.proofs.Common.{◌≡◌, ◌≤◌, length}
use Rattle.dg_lists.specs.inside.Summing.{total_from}
use Rattle.dg_lists.proofs.numbers.sum.Given as goal

abbrev pub decreases-cells : goal.decreases-cells
decreases-cells l = length l.rest

abbrev pub invariant-cells : goal.invariant-cells
invariant-cells l = record {
  same : total_from l.sum l.rest ≡ total_from 0 l.fn.cells;
  within : l.sum ≤ 16383;
}
