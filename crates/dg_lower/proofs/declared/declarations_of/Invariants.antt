use Rattle.std.proofs.Common.{◌≡◌, ◌++◌, drop, map}
use Rattle.dg_base.specs.TreeView.{item_view}
use Rattle.dg_core.specs.Places.{declarations}
use Rattle.dg_lower.specs.inside.View.{heads_view}
use Rattle.dg_lower.proofs.declared.declarations_of.Given as goal

abbrev pub invariant-loop-item : goal.invariant-loop-item
invariant-loop-item l = heads_view l.heads.items ++ declarations (map item_view (drop l.item-index l.items)) ≡ declarations (map item_view l.items)
