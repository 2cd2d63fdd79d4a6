use Rattle.std.proofs.Common.{◌≡◌, drop, map}
use Rattle.dg_base.specs.TreeView.{item_view}
use Rattle.dg_lower.specs.Lowered.{rule_line}
use Rattle.dg_lower.proofs.places.rule_line.Given as goal

abbrev pub invariant-loop-item : goal.invariant-loop-item
invariant-loop-item l = rule_line l.name (map item_view (drop l.item-index l.items)) ≡ rule_line l.name (map item_view l.items)
