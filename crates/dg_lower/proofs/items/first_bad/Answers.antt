use Rattle.dg_core.proofs.PredLemmas.{listed_distinct}
use Rattle.dg_lower.specs.Lowered as spec
use Rattle.dg_lower.specs.inside.Left.{rules_view}
use Rattle.dg_lower.specs.inside.View.{names_in, items_in}
use Rattle.dg_lower.proofs.LeftLemmas.{stands_at_first, stands_at_bad, stands_behind}
use Rattle.dg_lower.proofs.items.first_bad.Goals as goal

pub loop-item-init : goal.loop-item-init
loop-item-init c =
    let s = spec.sight_of (names_in c.args.around.now) (items_in c.args.around.now) c.args.quiet.now in
    stands_at_first s (items_in c.args.around.now) c.new-declared.result.items c.args.preds.now (rules_view c.in_ok-rows.rows.items) c.new-declared.ensures.items c.in_ok-rows.ensures c.requires.preds

pub is_bad-requires-clause-distinct : goal.is_bad-requires-clause-distinct
is_bad-requires-clause-distinct c = listed_distinct c.args.around.now.names.now.preds.keys c.as_slice-names.ensures.unique

pub returns-then-branch : goal.returns-then-branch
returns-then-branch c =
    let s = spec.sight_of (names_in c.args.around.now) (items_in c.args.around.now) c.args.quiet.now in
    stands_at_bad s c.loop-item.declared.items c.as_slice.result.now (rules_view c.loop-item.rows.items) (rules_view c.is_bad.new.rows.items)
    c.args.around.now.items.now c.loop-item.item-index c.item-item.result _ c.in_ok-is_bad.field-0
    c.loop-item-test.true c.item-item.is c.loop-item.invariant c.as_slice.ensures.value c.if-branch.true c.in_ok-is_bad.ensures

pub loop-item-preserved : goal.loop-item-preserved
loop-item-preserved c =
    let s = spec.sight_of (names_in c.args.around.now) (items_in c.args.around.now) c.args.quiet.now in
    stands_behind s c.loop-item.declared.items c.as_slice.result.now c.add_declared.new.declared.items (rules_view c.loop-item.rows.items) (rules_view c.is_bad.new.rows.items)
    c.args.around.now.items.now c.loop-item.item-index c.item-item.result _ c.in_ok-is_bad.field-0
    c.loop-item-test.true c.item-item.is c.loop-item.invariant c.as_slice.ensures.value c.if-branch.false c.in_ok-is_bad.ensures c.in_ok-add_declared.ensures
