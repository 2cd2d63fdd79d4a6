use Rattle.std.proofs.Common.{◌∙◌}
use Rattle.dg_core.proofs.PlaceLemmas.{all_changed_on}
use Rattle.dg_core.proofs.places.add_all_changes.Goals as goal

pub loop-item-preserved : goal.loop-item-preserved
loop-item-preserved c = all_changed_on _ _ _ c.loop-item.item-index c.item-item.result c.loop-item-test.true c.item-item.is c.in_ok-add_changes_of.ensures ∙ c.loop-item.invariant
