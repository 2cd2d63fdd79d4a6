use Rattle.std.proofs.Common.{◌∙◌}
use Rattle.dg_core.proofs.PlaceLemmas.{changed_on}
use Rattle.dg_core.proofs.places.add_changes.Goals as goal

pub loop-mention-preserved : goal.loop-mention-preserved
loop-mention-preserved c = changed_on _ _ _ c.loop-mention.mention-index c.mention-item.result c.loop-mention-test.true c.mention-item.is c.in_ok-add_changed.ensures ∙ c.loop-mention.invariant
