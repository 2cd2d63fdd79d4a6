use Rattle.std.proofs.Common.{◌≡◌, ◌+◌, drop, map}
use Rattle.dg_base.specs.Mentions.{weight_of}
use Rattle.dg_base.specs.TreeView.{item_view}
use Rattle.dg_scopes.specs.Counts.{counted_among, queries_at}
use Rattle.dg_scopes.proofs.counts.queries_in.Given as goal

abbrev pub invariant-loop-item : goal.invariant-loop-item
invariant-loop-item l = l.queries + weight_of queries_at (counted_among (map item_view (drop l.item-index l.items))) ≡ weight_of queries_at (counted_among (map item_view l.items))
