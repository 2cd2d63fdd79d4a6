use Rattle.std.proofs.Common.{◌∙◌}
use Rattle.dg_core.proofs.PlaceLemmas.{declared_on}
use Rattle.dg_core.proofs.places.add_all_declared.Goals as goal

pub loop-item-preserved : goal.loop-item-preserved
loop-item-preserved c = declared_on _ _ _ c.loop-item.item-index c.item-item.result c.loop-item-test.true c.item-item.is c.in_ok-add_declared.ensures ∙ c.loop-item.invariant
