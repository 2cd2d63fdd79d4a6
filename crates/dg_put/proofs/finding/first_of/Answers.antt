use Rattle.std.proofs.Common.{◌≡◌, ◌<◌, ℕ, length, map, get_or, false, sym, ◌∙◌, ap, subst, arith}
use Rattle.std.specs.Str.{bytes_eq}
use Rattle.dg_base.specs.Heads.{name_of}
use Rattle.dg_base.specs.Tree.{parts_of}
use Rattle.dg_base.specs.TreeView.{part_view}
use Rattle.dg_put.specs.declared.access.Access.{Access}
use Rattle.dg_put.specs.inside.Chains.{marks_of, IsNext}
use Rattle.dg_put.proofs.ChainLemmas.{begun, many, onward}
use Rattle.dg_put.proofs.finding.first_of.Goals as goal

pub loop-at-init : goal.loop-at-init
loop-at-init c =
    let rules = c.args.rules.all.now in
    let name = name_of (parts_of (map part_view c.args.parts.now)) in
    let first = get_or c.args.rules.firsts.now c.mark_of.result 0 in
    begun rules name first
    (subst (λ (m : ℕ). IsNext (marks_of rules) m 0 first) c.mark_of.ensures.mark (c.args.rules.begun.next c.mark_of.result c.mark_of.ensures.within))

pub loop-at-preserved : goal.loop-at-preserved
loop-at-preserved c =
    let rules = c.args.rules.all.now in
    let name = name_of (parts_of (map part_view c.args.parts.now)) in
    let at = c.loop-at.at in
    let r = c.index-rules-at.result in
    let here : at < length (marks_of rules) = omega (arith, c.loop-at-test.true, many rules) in
    let other : bytes_eq r.name.now name ≡ false =
    ap (λ (x : Access). bytes_eq x.name.now name) c.index-rules-at.is ∙ sym c.is_named.ensures ∙ c.if-is_named.false in
    onward rules name at (get_or c.args.rules.nexts.now at 0) r c.loop-at.invariant c.loop-at-test.true c.index-rules-at.is other
    (c.args.rules.linked.next at (omega arith) here)
