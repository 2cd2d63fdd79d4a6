use Rattle.std.proofs.Common.{map, refl, sym, ◌∙◌, ap, ◌-◌}
use Rattle.dg_base.specs.Tree.{Parts, parts_of}
use Rattle.dg_base.specs.TreeView.{part_view}
use Rattle.dg_plain.specs.Building.{built_view, asked}
use Rattle.dg_plain.proofs.StepLemmas.{on_ok}
use Rattle.dg_put.specs.Put.{level}
use Rattle.dg_put.specs.inside.Putting.{access_view, after_stmt, around, run}
use Rattle.dg_put.proofs.BuiltLemmas.{inner_is}
use Rattle.dg_put.proofs.StepLemmas.{asked_off, used_off, head_parts}
use Rattle.dg_put.proofs.steps.look_query.Goals as goal

pub returns-in_ok-inner-in-Some : goal.returns-in_ok-inner-in-Some
returns-in_ok-inner-in-Some c =
    let s = built_view c.args.weighed.now.built in
    let at = around c.args.uses in
    let parts = c.as_slice-parts.result in
    let rules = map access_view c.args.uses.rules.all.now in
    let depth = c.args.at.now.depth in
    let e = sym c.in-Some.ensures in
    on_ok c.put_off.result _ _ c.put_off.ensures
    (λ put. used_off c.args.at c.in_ok-inner-in-Some.inner at (level rules c.args.uses.mark (depth - 1)) c.args.asking c.in-Some.rule _ parts c.in_ok-number-in-Some.number s _ _ c.args.left.now.items _
    e (inner_is rules c.args.uses.mark depth (parts_of (map part_view parts.now)) (access_view c.in-Some.rule) e) c.in_ok-inner-in-Some.ensures c.in_ok-number-in-Some.ensures.number
    c.in_ok-number-in-Some.ensures.built c.wrap_of.ensures refl put
    ∙ ap (λ (p : Parts). run at c.args.left.now.items (after_stmt (at c.args.at.now) (asked c.args.asking p) s)) (head_parts c.args.head.now parts.now c.as_slice-parts.ensures))

pub returns-in-None : goal.returns-in-None
returns-in-None c =
    let s = built_view c.args.weighed.now.built in
    let at = around c.args.uses in
    let parts = c.as_slice-parts.result in
    on_ok c.put_off-in-None.result _ _ c.put_off-in-None.ensures
    (λ put. asked_off c.args.at at c.args.asking parts _ s c.args.left.now.items _ (sym c.in-None.ensures) refl put
    ∙ ap (λ (p : Parts). run at c.args.left.now.items (after_stmt (at c.args.at.now) (asked c.args.asking p) s)) (head_parts c.args.head.now parts.now c.as_slice-parts.ensures))
