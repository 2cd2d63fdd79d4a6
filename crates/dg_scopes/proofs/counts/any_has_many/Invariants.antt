use Rattle.std.proofs.Common.{◌≡◌, drop, map}
use Rattle.dg_base.specs.TreeView.{item_view}
use Rattle.dg_scopes.specs.Counts as spec
use Rattle.dg_scopes.proofs.counts.any_has_many.Given as goal

abbrev pub invariant-loop-item : goal.invariant-loop-item
invariant-loop-item l = spec.any_has_many (map item_view (drop l.item-index l.items)) ≡ spec.any_has_many (map item_view l.items)
