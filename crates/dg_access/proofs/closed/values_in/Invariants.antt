use Rattle.std.proofs.Common.{◌≡◌, ◌≤◌, ◌+◌, drop, map}
use Rattle.dg_base.specs.Tree.{parts_of}
use Rattle.dg_base.specs.TreeView.{part_view}
use Rattle.dg_items.specs.Expanded.{count_values}
use Rattle.dg_access.proofs.closed.values_in.Given as goal

abbrev pub invariant-loop-part : goal.invariant-loop-part
invariant-loop-part l = record {
  counted : l.count + count_values (parts_of (map part_view (drop l.part-index l.parts))) ≡ count_values (parts_of (map part_view l.parts));
  few : l.count ≤ l.part-index;
}
