use Rattle.std.proofs.Common.{◌≡◌, drop, map}
use Rattle.dg_base.specs.TreeView.{item_view}
use Rattle.dg_lower.specs.Lowered.{has_entry}
use Rattle.dg_lower.proofs.lowering.has_entry.Given as goal

abbrev pub invariant-loop-item : goal.invariant-loop-item
invariant-loop-item l = has_entry (map item_view (drop l.item-index l.items)) ≡ has_entry (map item_view l.items)
