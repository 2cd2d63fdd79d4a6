use Rattle.std.proofs.Common.{◌≡◌, drop, map}
use Rattle.dg_base.specs.Heads.{name_of}
use Rattle.dg_base.specs.TreeView.{item_view}
use Rattle.dg_names.specs.Scopes.{with_names}
use Rattle.dg_names.specs.State.{listed}
use Rattle.dg_core.specs.Places.{declarations}
use Rattle.dg_core.proofs.places.add_all_declared.Given as goal

abbrev pub invariant-loop-item : goal.invariant-loop-item
invariant-loop-item l = with_names (listed l.names) (map name_of (declarations (map item_view (drop l.item-index l.items)))) ≡ with_names (listed l.initial.names) (map name_of (declarations (map item_view l.items)))
