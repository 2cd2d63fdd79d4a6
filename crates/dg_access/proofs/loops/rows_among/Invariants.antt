use Rattle.std.proofs.Common.{◌≡◌, ◌++◌, drop, map}
use Rattle.dg_base.specs.TreeView.{item_view}
use Rattle.dg_put.specs.inside.Putting.{access_view}
use Rattle.dg_access.specs.inside.Reached.{rows_of}
use Rattle.dg_access.specs.inside.Rows.{first_rows}
use Rattle.dg_access.proofs.loops.rows_among.Given as goal

abbrev pub invariant-loop-item : goal.invariant-loop-item
invariant-loop-item l = rows_of l.rows.items ++ first_rows (map access_view l.rules.all.now) (map item_view (drop l.item-index l.items)) ≡ first_rows (map access_view l.rules.all.now) (map item_view l.items)
