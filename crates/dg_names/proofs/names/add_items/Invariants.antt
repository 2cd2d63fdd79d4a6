use Rattle.std.proofs.Common.{◌≡◌, ◌≤◌, drop, length, map}
use Rattle.dg_base.specs.TreeView.{item_view}
use Rattle.dg_names.specs.State.{listed, told_on, untold, tally_view}
use Rattle.dg_names.proofs.NameLemmas.{passing_in}
use Rattle.dg_names.proofs.names.add_items.Given as goal

abbrev pub invariant-loop-item : goal.invariant-loop-item
invariant-loop-item l = record {
  first : passing_in (tally_view l.tally) (map item_view (drop l.item-index l.items)) ≡ passing_in untold (map item_view l.items);
  told : told_on (tally_view l.tally) (map item_view (drop l.item-index l.items)) ≡ told_on untold (map item_view l.items);
  few : length (listed l.tally.sets.preds) ≤ 4000;
}
