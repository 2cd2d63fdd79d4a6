use Rattle.std.proofs.Common.{◌≡◌, ◌<◌, ◌+◌, [], ◌∷◌, List, Bool, drop, get_or, length, map, sym, ◌∙◌, ap, arith}
use Rattle.std.specs.Prelude.{Some, if◌then◌else◌}
use Rattle.std.proofs.Math.ListN.{drop_of_length-le}
use Rattle.std.proofs.lemmas.List.{drop_more}
use Rattle.dg_base.specs.TreeView.{item_view}
use Rattle.dg_base.specs.declared.tree.Item.{Item}
use Rattle.dg_names.specs.State.{Told, behind, told_on, tally_view}
use Rattle.dg_names.proofs.NameLemmas.{passing_in, stepped, few_preds, refused_at, all_named}
use Rattle.dg_names.proofs.names.add_items.Goals as goal

pub loop-item-preserved : goal.loop-item-preserved
loop-item-preserved c =
    let items = c.args.items.now in
    let k = c.loop-item.item-index in
    let x = c.item-item.result in
    let lt : k < length items = omega arith in
    let is = c.item-item.is in
    let same : x ≡ get_or items k x = cc in
    let here : drop k items ≡ x ∷ drop (k + 1) items = drop_more items k x lt ∙ ap (λ (y : Item). y ∷ drop (k + 1) items) (sym same) in
    let t = tally_view c.loop-item.tally in
    let t' = tally_view c.add_item.new.tally in
    let rest = map item_view (drop (k + 1) items) in
    let next : t' ≡ behind t (item_view x).said = c.in_ok-add_item.ensures.behind c.if-branch.false in
    record {
      first =
          sym (ap (λ (b : Bool). if b then Some (item_view x) else passing_in t' rest) c.if-branch.false)
          ∙ sym (stepped t t' (item_view x) rest _ c.in_ok-add_item.ensures.over c.in_ok-add_item.ensures.behind)
          ∙ sym (ap (λ (l : List Item). passing_in t (map item_view l)) here)
          ∙ c.loop-item.invariant.first;
      told = ap (λ (u : Told). told_on u rest) next ∙ sym (ap (λ (l : List Item). told_on t (map item_view l)) here) ∙ c.loop-item.invariant.told;
      few = few_preds _ (behind t (item_view x).said) t' (sym c.in_ok-add_item.ensures.over ∙ c.if-branch.false) next;
    }

pub returns-then-branch-clause-refused : goal.returns-then-branch-clause-refused
returns-then-branch-clause-refused c =
    let items = c.args.items.now in
    let k = c.loop-item.item-index in
    let x = c.item-item.result in
    let lt : k < length items = omega arith in
    let is = c.item-item.is in
    let same : x ≡ get_or items k x = cc in
    let here : drop k items ≡ x ∷ drop (k + 1) items = drop_more items k x lt ∙ ap (λ (y : Item). y ∷ drop (k + 1) items) (sym same) in
    let t = tally_view c.loop-item.tally in
    let t' = tally_view c.add_item.new.tally in
    let rest = map item_view (drop (k + 1) items) in
    refused_at (map item_view items) (item_view x) c.too_many.result c.too_many.ensures
    (sym c.loop-item.invariant.first
    ∙ ap (λ (l : List Item). passing_in t (map item_view l)) here
    ∙ stepped t t' (item_view x) rest _ c.in_ok-add_item.ensures.over c.in_ok-add_item.ensures.behind
    ∙ ap (λ (b : Bool). if b then Some (item_view x) else passing_in t' rest) c.if-branch.true)

pub returns-clause-named : goal.returns-clause-named
returns-clause-named c =
    let items = c.args.items.now in
    let none : drop c.loop-item.item-index items ≡ [] = drop_of_length-le items (omega arith) in
    all_named (map item_view items) (tally_view c.loop-item.tally)
    (sym c.loop-item.invariant.first ∙ ap (λ (l : List Item). passing_in (tally_view c.loop-item.tally) (map item_view l)) none)
    (sym (ap (λ (l : List Item). told_on (tally_view c.loop-item.tally) (map item_view l)) none) ∙ c.loop-item.invariant.told)
