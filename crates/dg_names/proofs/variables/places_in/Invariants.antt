use Rattle.std.proofs.Common.{◌≡◌, ◌+◌, ◌≤◌, drop, map}
use Rattle.dg_base.specs.Tree.{parts_of}
use Rattle.dg_base.specs.TreeView.{part_view}
use Rattle.dg_names.specs.Counts.{places_in}
use Rattle.dg_names.proofs.variables.places_in.Given as goal

abbrev pub invariant-loop-part : goal.invariant-loop-part
invariant-loop-part l = record {
  sum : l.places + places_in (parts_of (map part_view (drop l.part-index l.parts))) ≡ places_in (parts_of (map part_view l.parts));
  below : l.places ≤ l.part-index;
}
