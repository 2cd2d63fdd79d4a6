use Rattle.std.proofs.Common.{◌≡◌, ◌++◌, drop, map}
use Rattle.dg_base.specs.Tree.{parts_of}
use Rattle.dg_base.specs.TreeView.{part_view}
use Rattle.dg_core.specs.Places as spec
use Rattle.dg_core.specs.inside.View.{values_view}
use Rattle.dg_core.proofs.terms.values_in.Given as goal

abbrev pub invariant-loop-part : goal.invariant-loop-part
invariant-loop-part l = values_view l.values.items ++ spec.head_values (parts_of (map part_view (drop l.part-index l.parts))) ≡ spec.head_values (parts_of (map part_view l.parts))
