use Rattle.std.proofs.Common.{◌≡◌, drop, map}
use Rattle.dg_base.specs.Tree.{parts_of}
use Rattle.dg_base.specs.TreeView.{part_view}
use Rattle.dg_reader.specs.inside.Distinct.{listed, are_new}
use Rattle.dg_reader.proofs.distinct.are_new.Given as goal

abbrev pub invariant-loop-part : goal.invariant-loop-part
invariant-loop-part l = are_new (listed l.initial.names) (parts_of (map part_view l.parts)) ≡ are_new (listed l.names) (parts_of (map part_view (drop l.part-index l.parts)))
