use Rattle.std.proofs.Common.{map}
use Rattle.dg_base.specs.TreeView.{item_view}
use Rattle.dg_core.proofs.MakeLemmas.{on_ok}
use Rattle.dg_core.proofs.PlaceLemmas.{gathered}
use Rattle.dg_core.proofs.places.add_places.Goals as goal

pub returns : goal.returns
returns c = on_ok c.add_all_changes.result (λ all. gathered (map item_view c.args.items.now) _ _ _ _ c.requires c.in_ok-add_name.ensures c.in_ok-add_all_declared.ensures all) c.add_all_changes.ensures
