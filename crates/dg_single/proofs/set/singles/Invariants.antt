use Rattle.std.proofs.Common.{◌≡◌, ◌+◌, length, false}
use Rattle.dg_single.specs.Singles.{IsClosed, HasAll}
use Rattle.dg_single.specs.inside.Left.{count_in, one_if}
use Rattle.dg_single.proofs.set.singles.Given as goal

abbrev pub invariant-loop-changed : goal.invariant-loop-changed
invariant-loop-changed l = record {
  answers : length l.set.items ≡ length l.preds;
  greatest : HasAll l.preds l.set.items;
  closed : l.changed ≡ false → IsClosed l.preds l.set.items;
}

abbrev pub decreases-loop-changed : goal.decreases-loop-changed
decreases-loop-changed l = count_in l.set.items + one_if l.changed
