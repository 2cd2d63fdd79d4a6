use Rattle.std.proofs.Common.{map, refl, sym, ◌-◌}
use Rattle.dg_base.specs.Tree.{parts_of}
use Rattle.dg_base.specs.TreeView.{part_view}
use Rattle.dg_plain.specs.Building.{built_view}
use Rattle.dg_plain.proofs.StepLemmas.{on_ok}
use Rattle.dg_put.specs.Put.{level, rule_for}
use Rattle.dg_put.specs.inside.Putting.{access_view, around}
use Rattle.dg_put.proofs.BuiltLemmas.{inner_changes_is}
use Rattle.dg_put.proofs.PlaceLemmas.{changing_some}
use Rattle.dg_put.proofs.StepLemmas.{change_off, changed_off}
use Rattle.dg_put.proofs.steps.look_change.Goals as goal

pub returns-in_ok-inner-in-Some : goal.returns-in_ok-inner-in-Some
returns-in_ok-inner-in-Some c =
    let s = built_view c.args.weighed.now.built in
    let rules = map access_view c.args.uses.rules.all.now in
    let mark = c.args.uses.mark in
    let depth = c.args.at.now.depth in
    let ps = parts_of (map part_view c.args.parts.now) in
    let e = sym c.in-Some.ensures in
    let found = changing_some c.args.set (rule_for (level rules mark depth).rules ps) (access_view c.in-Some.rule) e in
    on_ok c.put_off_one.result _ _ c.put_off_one.ensures
    (λ put. changed_off c.args.at c.in_ok-inner-in-Some.inner (around c.args.uses) (level rules mark (depth - 1)) c.args.set c.in-Some.rule _ c.args.parts c.in_ok-number-in-Some.number s _ c.args.left.now.items _
    e (inner_changes_is rules mark depth ps found.0 found.1) c.in_ok-inner-in-Some.ensures c.in_ok-number-in-Some.ensures.number
    c.in_ok-number-in-Some.ensures.built c.queries_of.ensures put)

pub returns-in-None : goal.returns-in-None
returns-in-None c = on_ok c.put_off.result _ _ c.put_off.ensures (λ put. change_off c.args.at (around c.args.uses) c.args.set c.args.parts _ (built_view c.args.weighed.now.built) c.args.left.now.items _ (sym c.in-None.ensures) refl put)
