use Rattle.std.proofs.Common.{◌≡◌, ◌≤◌, drop, map}
use Rattle.dg_base.specs.TreeView.{item_view}
use Rattle.dg_put.specs.inside.Putting.{access_view}
use Rattle.dg_access.specs.inside.Rows.{first_numbered}
use Rattle.dg_access.proofs.loops.first_numbered.Given as goal

abbrev pub invariant-loop-item : goal.invariant-loop-item
invariant-loop-item l = record {
  same : first_numbered (map access_view l.rules.all.now) l.number (map item_view (drop l.item-index l.items)) ≡ first_numbered (map access_view l.rules.all.now) 0 (map item_view l.items);
  few : l.number ≤ l.item-index;
}
