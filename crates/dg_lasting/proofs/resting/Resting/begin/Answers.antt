use Rattle.std.proofs.Common.{◌∙◌, ap, List, length, map, replicate}
use Rattle.std.proofs.lemmas.List.{with_items_is}
use Rattle.std.specs.Vec.{with_items}
use Rattle.dg_choose.specs.Site.{picks_of}
use Rattle.dg_choose.specs.declared.site.Site.{Site}
use Rattle.dg_meaning.specs.Choosing.{no_picks}
use Rattle.dg_lasting.proofs.Beginning.{as_large, all_dropped, begins_again, large_again}
use Rattle.dg_lasting.proofs.resting.Resting.begin.Goals as goal

pub set_to-requires : goal.set_to-requires
set_to-requires c = let may = c.requires.may in as_large may.0 may.1 c.args.self may.2

pub returns-clause-starts : goal.returns-clause-starts
returns-clause-starts c p l may =
    let r = c.args.self in
    let same = with_items_is r.sites c.empty_sites.new.sites (c.empty_sites.auto.sites ∙ c.deref_mut.ensures.len) in
    let none = ap (map picks_of) same ∙ c.empty_sites.ensures ∙ ap (λ (s : List Site). replicate (length s) no_picks) c.deref_mut.ensures.value in
    begins_again p l c.args.dice.now r c.set_to.new.self c.drop_to.new.self c.new.result (with_items r.sites c.empty_sites.new.sites) may c.set_to.ensures.stands (all_dropped r.gathered c.drop_to.new.self c.drop_to.ensures) c.new.ensures none

pub returns-clause-extent : goal.returns-clause-extent
returns-clause-extent c =
    let r = c.args.self in
    let same = with_items_is r.sites c.empty_sites.new.sites (c.empty_sites.auto.sites ∙ c.deref_mut.ensures.len) in
    let none = ap (map picks_of) same ∙ c.empty_sites.ensures ∙ ap (λ (s : List Site). replicate (length s) no_picks) c.deref_mut.ensures.value in
    large_again r c.set_to.new.self c.drop_to.new.self c.new.result (with_items r.sites c.empty_sites.new.sites) c.set_to.ensures.shape (all_dropped r.gathered c.drop_to.new.self c.drop_to.ensures) none
