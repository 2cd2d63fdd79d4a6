use Rattle.std.proofs.Common.{◌≡◌, drop, map}
use Rattle.dg_base.specs.TreeView.{item_view}
use Rattle.dg_lint.specs.inside.View.{used_by, uses_view}
use Rattle.dg_lint.proofs.uses.note_items.Given as goal

abbrev pub invariant-loop-item : goal.invariant-loop-item
invariant-loop-item l = used_by (map item_view (drop l.item-index l.items)) (uses_view l.uses) ≡ used_by (map item_view l.items) (uses_view l.initial.uses)
