use Rattle.std.proofs.Common.{◌≡◌, ◌++◌, drop, map}
use Rattle.dg_base.specs.TreeView.{item_view}
use Rattle.dg_items.specs.Expanded as spec
use Rattle.dg_put.specs.inside.Putting.{access_view}
use Rattle.dg_items.proofs.rules.access_rules.Given as goal

abbrev pub invariant-loop-item : goal.invariant-loop-item
invariant-loop-item l = map access_view l.rules.items ++ spec.access_rules (map item_view (drop l.item-index l.items)) ≡ spec.access_rules (map item_view l.items)
