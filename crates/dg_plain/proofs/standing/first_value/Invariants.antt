use Rattle.std.proofs.Common.{◌≡◌, map, length}
use Rattle.dg_base.specs.Tree.{parts_of}
use Rattle.dg_base.specs.TreeView.{part_view, value_view}
use Rattle.dg_plain.specs.Plain as spec
use Rattle.dg_plain.specs.State.{first_or}
use Rattle.dg_plain.proofs.standing.first_value.Given as goal

abbrev pub invariant-loop-part : goal.invariant-loop-part
invariant-loop-part l = first_or (parts_of (map part_view l.parts)) (value_view l.first) ≡ spec.first_value (parts_of (map part_view l.initial.parts))

abbrev pub decreases-loop-part : goal.decreases-loop-part
decreases-loop-part l = length l.parts
