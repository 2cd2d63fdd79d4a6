use Rattle.std.proofs.Common.{◌≡◌, ◌++◌, [], drop, map}
use Rattle.dg_base.specs.TreeView.{item_view}
use Rattle.dg_scopes.specs.Scopes.{counts_of}
use Rattle.dg_scopes.specs.State.{counts_view}
use Rattle.dg_access.specs.Answer.{first_refused}
use Rattle.dg_items.specs.Expanded.{put_items}
use Rattle.dg_put.specs.inside.Putting.{access_view}
use Rattle.dg_access.proofs.answer.put_all.Given as goal

abbrev pub invariant-loop-item : goal.invariant-loop-item
invariant-loop-item l = record {
  refused : first_refused (map access_view l.rules.all.now) (map item_view l.out.items) (map item_view (drop l.item-index l.items)) ≡ first_refused (map access_view l.rules.all.now) [] (map item_view l.items);
  put : map item_view l.out.items ++ put_items (map access_view l.rules.all.now) (map item_view (drop l.item-index l.items)) ≡ put_items (map access_view l.rules.all.now) (map item_view l.items);
  counts : counts_view l.counts ≡ counts_of (map item_view l.out.items);
}
