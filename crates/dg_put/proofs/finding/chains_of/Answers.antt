use Rattle.std.proofs.Common.{rules, ◌≡◌, ◌+◌, ◌-◌, ◌<◌, ℕ, length, map, get_or, replicate, sym, ◌∙◌, ap, subst, arith}
use Rattle.std.proofs.lemmas.Grind.{get_or_default_zero}
use Rattle.dg_base.specs.Heads.{name_of}
use Rattle.dg_base.specs.Tree.{parts_of}
use Rattle.dg_base.specs.TreeView.{part_view}
use Rattle.dg_put.specs.declared.access.Access.{Access}
use Rattle.dg_put.specs.inside.Chains.{marks_of, AreFirst, AreNext}
use Rattle.dg_put.specs.inside.Marks.{mark_of}
use Rattle.dg_put.proofs.ChainLemmas.{many, marked, none_first, none_next, one_more}
use Rattle.dg_put.proofs.finding.chains_of.Goals as goal

pub loop-from-init : goal.loop-from-init
loop-from-init c =
    let all = c.args.all.now in
    let firsts : c.in_ok-firsts.firsts.items ≡ replicate 509 (length all) = search rules in
    let nexts : c.in_ok-nexts.nexts.items ≡ replicate (length all) (length all) = search rules in
    record {
      within = omega arith;
      begun = none_first (marks_of all) c.in_ok-firsts.firsts.items (length all) (many all) firsts;
      linked = none_next (marks_of all) c.in_ok-nexts.nexts.items (length all) (many all) nexts;
    }

pub loop-from-preserved : goal.loop-from-preserved
loop-from-preserved c =
    let all = c.args.all.now in
    let from = c.loop-from.from in
    let at = from - 1 in
    let mark = c.mark_of-mark.result in
    let r = c.index-all-from.result in
    let firsts = c.loop-from.firsts.items in
    let next = c.index.result.now in
    let h : at < length all = omega (arith, c.loop-from.invariant.within, c.loop-from-test.true) in
    let within : at < length (marks_of all) = omega (arith, h, many all) in
    let wide : mark < length firsts = omega (arith, c.loop-from.invariant.begun.width, c.mark_of-mark.ensures.within) in
    let is : get_or (marks_of all) at 0 ≡ mark =
    marked all at r h c.index-all-from.is ∙ ap mark_of r.named
    ∙ ap (λ (x : Access). mark_of (name_of (parts_of (map part_view x.head.now)))) c.index-all-from.is ∙ sym c.mark_of-mark.ensures.mark in
    let same : next ≡ get_or firsts mark 0 = c.index.ensures ∙ get_or_default_zero firsts mark next wide in
    let step : from ≡ at + 1 = omega (arith, c.loop-from-test.true) in
    let both = one_more (marks_of all) firsts c.loop-from.nexts.items from at mark next step within c.mark_of-mark.ensures.within is same
    c.loop-from.invariant.begun c.loop-from.invariant.linked in
    record { within = omega (arith, h); begun = both.0; linked = both.1 }

pub returns-clause-begun : goal.returns-clause-begun
returns-clause-begun c =
    let none : c.loop-from.from ≡ 0 = omega (arith, c.loop-from-test.false) in
    subst (λ (n : ℕ). AreFirst (marks_of c.args.all.now) n c.loop-from.firsts.items) none c.loop-from.invariant.begun

pub returns-clause-linked : goal.returns-clause-linked
returns-clause-linked c =
    let none : c.loop-from.from ≡ 0 = omega (arith, c.loop-from-test.false) in
    subst (λ (n : ℕ). AreNext (marks_of c.args.all.now) n c.loop-from.nexts.items) none c.loop-from.invariant.linked
