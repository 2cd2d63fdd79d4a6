use Rattle.std.proofs.Common.{◌≡◌, drop, map}
use Rattle.dg_base.specs.Heads.{parts_behind}
use Rattle.dg_base.specs.Tree.{parts_of}
use Rattle.dg_base.specs.TreeView.{part_view}
use Rattle.dg_put.specs.inside.Marks.{mix_all}
use Rattle.dg_put.proofs.marks.mix_parts.Given as goal

abbrev pub invariant-loop-part : goal.invariant-loop-part
invariant-loop-part l =
    mix_all l.sum (parts_behind (parts_of (map part_view (drop l.part-index l.parts)))) ≡ mix_all 0 (parts_behind (parts_of (map part_view l.parts)))
