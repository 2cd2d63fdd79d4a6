use Rattle.std.proofs.Common.{◌≡◌, drop, map}
use Rattle.dg_base.specs.TreeView.{item_view}
use Rattle.dg_scopes.specs.Counts.{counted_among}
use Rattle.dg_scopes.specs.Scopes.{counted}
use Rattle.dg_scopes.specs.State.{counts_view}
use Rattle.dg_scopes.proofs.counts.counts_behind.Given as goal

abbrev pub invariant-loop-item : goal.invariant-loop-item
invariant-loop-item l = counted (counted_among (map item_view (drop l.item-index l.items))) (counts_view l.counts) ≡ counted (counted_among (map item_view l.items)) (counts_view l.initial.counts)
