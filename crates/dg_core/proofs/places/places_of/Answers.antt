use Rattle.std.proofs.Common.{map}
use Rattle.dg_base.specs.TreeView.{item_view}
use Rattle.dg_core.proofs.PlaceLemmas.{placed_as}
use Rattle.dg_core.proofs.places.places_of.Goals as goal

pub returns-in-Ok : goal.returns-in-Ok
returns-in-Ok c = placed_as (map item_view c.args.items.now) _ _ c.in-Ok.ensures c.in_ok-declared.ensures
