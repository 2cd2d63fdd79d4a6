use Rattle.std.proofs.Common.{◌≡◌, ◌++◌, map, take, drop}
use Rattle.dg_choose.specs.declared.site.Site.{Site}
use Rattle.dg_lasting.proofs.resting.empty_sites.Given as goal

abbrev pub invariant-loop-site : goal.invariant-loop-site
invariant-loop-site l = l.sites ≡ map (λ (s : Site). l.none) (take l.site-index l.fn.sites) ++ drop l.site-index l.fn.sites
