use Rattle.std.proofs.Common.{◌≡◌, drop, map}
use Rattle.dg_base.specs.TreeView.{part_view}
use Rattle.dg_put.specs.inside.Putting.{argument_in}
use Rattle.dg_put.proofs.place.argument_among.Given as goal

abbrev pub invariant-loop-index : goal.invariant-loop-index
invariant-loop-index l = argument_in (map part_view (drop l.index l.params)) (map part_view (drop l.index l.args)) l.name ≡ argument_in (map part_view l.params) (map part_view l.args) l.name
