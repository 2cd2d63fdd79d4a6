use Rattle.std.proofs.Common.{◌≡◌, drop, map}
use Rattle.dg_base.specs.Mentions.{names_in, mentioned}
use Rattle.dg_base.specs.TreeView.{item_view}
use Rattle.dg_names.specs.Scopes.{with_names}
use Rattle.dg_names.specs.State.{listed}
use Rattle.dg_core.specs.Places.{changed_in}
use Rattle.dg_core.proofs.places.add_all_changes.Given as goal

abbrev pub invariant-loop-item : goal.invariant-loop-item
invariant-loop-item l = with_names (listed l.names) (names_in changed_in (mentioned (map item_view (drop l.item-index l.items)))) ≡ with_names (listed l.initial.names) (names_in changed_in (mentioned (map item_view l.items)))
