use Rattle.std.proofs.Common.{rules, ◌≡◌, ap, ◌∙◌, sym, subst, arith, max, map}
use Rattle.std.proofs.lemmas.List.{map-set, length-map}
use Rattle.dg_choose.specs.Site.{picks_of, HasPicked, Chose}
use Rattle.dg_meaning.specs.Choosing.{picks_at}
use Rattle.dg_lasting.specs.Lasting.{picks_in}
use Rattle.dg_lasting.proofs.Picks.{picks_one, set_beyond}
use Rattle.dg_lasting.proofs.lasting.Lasting.pick.Goals as goal

pub returns-then-at-len : goal.returns-then-at-len
returns-then-at-len c =
    let old = c.args.self.now in
    let here : picks_of c.site_at-here.result ≡ picks_at (picks_in old) c.args.site = c.site_at-here.ensures ∙ ap (λ l. picks_at (map picks_of l) c.args.site) c.as_slice.ensures.value in
    let count : c.max.result ≡ max c.args.branches 1 = search rules in
    picks_one c.args.site c.args.branches c.pick-branch.result c.args.mode old c.site_at-here.result c.pick-branch.new.site c.pick-branch.new.dice _ here
    (λ picks words n was drawn. subst (λ k. Chose c.args.mode k picks words n c.pick-branch.result c.pick-branch.new.site c.pick-branch.new.dice) count
    (c.pick-branch.ensures.chose picks words n (subst (λ k. HasPicked c.site_at-here.result c.args.mode k picks) (sym count) was) drawn))
    c.pick-branch.ensures.exact c.requires.may (map-set picks_of old.sites.items c.args.site c.pick-branch.new.site)

pub returns-else-at-len : goal.returns-else-at-len
returns-else-at-len c =
    let old = c.args.self.now in
    let here : picks_of c.site_at-here.result ≡ picks_at (picks_in old) c.args.site = c.site_at-here.ensures ∙ ap (λ l. picks_at (map picks_of l) c.args.site) c.as_slice.ensures.value in
    let count : c.max.result ≡ max c.args.branches 1 = search rules in
    picks_one c.args.site c.args.branches c.pick-branch.result c.args.mode old c.site_at-here.result c.pick-branch.new.site c.pick-branch.new.dice _ here
    (λ picks words n was drawn. subst (λ k. Chose c.args.mode k picks words n c.pick-branch.result c.pick-branch.new.site c.pick-branch.new.dice) count
    (c.pick-branch.ensures.chose picks words n (subst (λ k. HasPicked c.site_at-here.result c.args.mode k picks) (sym count) was) drawn))
    c.pick-branch.ensures.exact c.requires.may
    (sym (set_beyond (picks_in old) c.args.site (picks_of c.pick-branch.new.site) (omega (arith, length-map old.sites.items picks_of, c.if-at-len.false))))
