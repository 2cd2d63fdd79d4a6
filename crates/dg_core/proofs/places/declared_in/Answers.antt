use Rattle.std.proofs.Common.{map, ap}
use Rattle.dg_base.specs.TreeView.{item_view}
use Rattle.dg_core.proofs.PlaceLemmas.{declared_as}
use Rattle.dg_core.proofs.places.declared_in.Goals as goal

pub returns-in-Ok : goal.returns-in-Ok
returns-in-Ok c = declared_as (map item_view c.args.items.now) _ _ (ap (map (λ n. n.items)) c.new-names.ensures.empty) c.in-Ok.ensures
