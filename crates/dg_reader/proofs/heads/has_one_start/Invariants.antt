use Rattle.std.proofs.Common.{◌≡◌, ◌≤◌, ◌-◌, drop, length, map}
use Rattle.dg_base.specs.Tree.{parts_of}
use Rattle.dg_base.specs.TreeView.{part_view}
use Rattle.dg_reader.specs.Heads as spec
use Rattle.dg_reader.proofs.heads.has_one_start.Given as goal

abbrev pub invariant-loop-at : goal.invariant-loop-at
invariant-loop-at l = record {
  same : spec.has_one_start (parts_of (map part_view l.parts)) ≡ spec.has_one_start (parts_of (map part_view (drop l.at l.parts)));
  within : l.at ≤ length l.parts;
}

abbrev pub decreases-loop-at : goal.decreases-loop-at
decreases-loop-at l = length l.parts - l.at
