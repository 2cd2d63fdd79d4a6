use Rattle.std.proofs.Common.{◌≡◌, ◌++◌, None, drop, map}
use Rattle.std.specs.Option.{option_map}
use Rattle.dg_base.specs.TreeView.{item_view}
use Rattle.dg_plain.specs.Items as items
use Rattle.dg_plain.proofs.rules.plain_tree.Given as goal

abbrev pub invariant-loop-item : goal.invariant-loop-item
invariant-loop-item l = map item_view l.new.items ++ items.plain_items (option_map (λ name. name.now) l.topic) (map item_view (drop l.item-index l.tree.items)) ≡ items.plain_items None (map item_view l.tree.items)
