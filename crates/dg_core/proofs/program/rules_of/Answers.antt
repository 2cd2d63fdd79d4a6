use Rattle.std.proofs.Common.{◌+◌, ◌++◌, ℕ, List, [], drop, map, sym, ◌∙◌, ap, arith}
use Rattle.std.proofs.lemmas.List.{drop_all}
use Rattle.dg_base.specs.TreeView.{item_view}
use Rattle.dg_base.specs.declared.tree.Item.{Item}
use Rattle.dg_core.specs.Core.{Before, none_before, rows_from, all_selects, inner_selects}
use Rattle.dg_core.specs.inside.View.{scope_view, before_view, with_all, with_rules_in, pred_names}
use Rattle.dg_core.specs.inside.Waiting.{rows_kept, selects_kept}
use Rattle.dg_core.specs.declared.rows.Kept.{Kept}
use Rattle.dg_core.proofs.KeptLemmas.{next_kept}
use Rattle.dg_core.proofs.PredLemmas.{bare_all, bare_names, names_kept, all_more, all_done, next_item}
use Rattle.dg_core.proofs.program.rules_of.Goals as goal

pub loop-item-init : goal.loop-item-init
loop-item-init c =
    let s = scope_view c.args.around.now in
    let items = map item_view c.args.items.now in
    let none = ap selects_kept c.new.ensures.items in
    record {
      preds = ap (map (with_all s none_before items)) c.in_ok-bare_preds.ensures.bare ∙ bare_all s items s.names.preds;
      named = ap pred_names c.in_ok-bare_preds.ensures.bare ∙ bare_names s [] s.names.preds;
      kept = λ n. ap (λ (ks : List Kept). rows_kept s n ks ++ rows_from s (record { selects = n + selects_kept ks; closures = 0 }) items) c.new.ensures.items
          ∙ ap (λ (m : ℕ). rows_from s (record { selects = m; closures = 0 }) items) (omega arith);
      inner = omega (arith, none);
      sites = omega arith;
    }

pub loop-item-preserved : goal.loop-item-preserved
loop-item-preserved c =
    let s = scope_view c.args.around.now in
    let item = c.item-item.result in
    let view = item_view item in
    let old = c.loop-item.rules in
    let new = c.add_item.new.rules in
    let n = before_view old.before in
    let others = map item_view (drop (c.loop-item.item-index + 1) c.args.items.now) in
    let next = next_item c.args.items.now c.loop-item.item-index item c.loop-item-test.true c.item-item.is in
    let keeps = c.in_ok-add_item.ensures.kept in
    let closures = ap (λ (b : Before). b.closures) c.in_ok-add_item.ensures.before in
    let selects = ap (λ (b : Before). b.selects) c.in_ok-add_item.ensures.before in
    record {
      preds =
          ap (map (with_all s (before_view new.before) others)) c.in_ok-add_item.ensures.preds
          ∙ ap (λ (k : Before). map (with_all s k others) (map (with_rules_in s n view.said) old.preds.items)) c.in_ok-add_item.ensures.before
          ∙ all_more s n view others old.preds.items
          ∙ ap (λ (is : List Item). map (with_all s n (map item_view is)) old.preds.items) (sym next)
          ∙ c.loop-item.invariant.preds;
      named = ap pred_names c.in_ok-add_item.ensures.preds ∙ names_kept s n view.said old.preds.items ∙ c.loop-item.invariant.named;
      kept = λ m. ap (λ (k : ℕ). rows_kept s m new.kept.items ++ rows_from s (record { selects = m + selects_kept new.kept.items; closures = k }) others) closures
          ∙ next_kept s old.before.closures m view others old.kept.items new.kept.items keeps
          ∙ ap (λ (is : List Item). rows_kept s m old.kept.items ++ rows_from s (record { selects = m + selects_kept old.kept.items; closures = old.before.closures }) (map item_view is)) (sym next)
          ∙ c.loop-item.invariant.kept m;
      inner = let here = ap (λ (is : List Item). inner_selects (map item_view is)) next in omega (arith, keeps.selects, here, c.loop-item.invariant.inner);
      sites = let here = ap (λ (is : List Item). all_selects (map item_view is)) next in omega (arith, selects, here, c.loop-item.invariant.sites);
    }

pub returns-clause-preds : goal.returns-clause-preds
returns-clause-preds c =
    let s = scope_view c.args.around.now in
    let n = before_view c.loop-item.rules.before in
    sym (all_done s n c.loop-item.rules.preds.items)
    ∙ ap (λ (is : List Item). map (with_all s n (map item_view is)) c.loop-item.rules.preds.items) (sym (drop_all c.loop-item.item-index c.args.items.now c.loop-item-test.false))
    ∙ c.loop-item.invariant.preds
