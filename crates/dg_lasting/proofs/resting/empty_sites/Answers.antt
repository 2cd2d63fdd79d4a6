use Rattle.std.proofs.Common.{◌<◌, length, get_or, arith}
use Rattle.std.proofs.lemmas.List.{get_or_default}
use Rattle.std.proofs.lemmas.List.Edits.{map_over_more}
use Rattle.dg_choose.specs.declared.site.Site.{Site}
use Rattle.dg_lasting.proofs.Beginning.{all_picked_none}
use Rattle.dg_lasting.proofs.resting.empty_sites.Goals as goal

pub loop-site-preserved : goal.loop-site-preserved
loop-site-preserved c =
    let none = c.new-none.result in
    let sites = c.loop-site.sites in
    let i = c.loop-site.site-index in
    let within : i < length sites = omega arith in
    map_over_more (λ (s : Site). none) c.args.sites.now sites i (get_or sites i none) (omega arith) c.loop-site.invariant (get_or_default sites i none _ within)

pub returns : goal.returns
returns c = all_picked_none c.new-none.result c.args.sites.now c.loop-site.sites c.loop-site.site-index c.new-none.ensures.none (omega arith) c.loop-site.invariant
