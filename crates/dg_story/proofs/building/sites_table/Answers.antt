use Rattle.std.proofs.Common.{◌∙◌}
use Rattle.dg_story.proofs.WorldLemmas.{zeros_next}
use Rattle.dg_story.proofs.building.sites_table.Goals as goal

pub loop-site-preserved : goal.loop-site-preserved
loop-site-preserved c = zeros_next c.loop-site.bytes c.put_zero-in-loop-site.new.bytes c.as_slice-site-items.result.now c.loop-site._site-index c.loop-site-test.true c.in_ok-put_zero-2.ensures ∙ c.loop-site.invariant
