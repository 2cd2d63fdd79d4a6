use Rattle.std.proofs.Common.{◌≡◌, ◌++◌, length, drop}
use Rattle.dg_story.specs.Built.{zero_words, site_words}
use Rattle.dg_story.proofs.building.sites_table.Given as goal

abbrev pub invariant-loop-site : goal.invariant-loop-site
invariant-loop-site l = l.bytes ++ zero_words (length (drop l._site-index l._site-items)) ≡ zero_words (site_words l.code)
