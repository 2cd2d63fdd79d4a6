use Rattle.std.proofs.Common.{◌≡◌, ◌+◌, ◌<◌, ◌∷◌, ◌++◌, List, drop, get_or, length, map, sym, ◌∙◌, ap, arith}
use Rattle.std.specs.Prelude.{flat_map}
use Rattle.std.proofs.lemmas.List.{drop_more}
use Rattle.dg_base.specs.TreeView.{item_view}
use Rattle.dg_base.specs.declared.tree.Item.{Item}
use Rattle.dg_lint.specs.Lines.{item_lines}
use Rattle.dg_lint.specs.inside.View.{uses_view}
use Rattle.dg_lint.proofs.LineLemmas.{step}
use Rattle.dg_lint.proofs.lines.lines_of.Goals as goal

pub loop-item-preserved : goal.loop-item-preserved
loop-item-preserved c =
    let f = item_lines c.args.file.now (uses_view c.args.uses.now) in
    let items = c.args.items.now in
    let k = c.loop-item.item-index in
    let x = c.item-item.result in
    let lt : k < length items = omega arith in
    let is = c.item-item.is in
    let same : x ≡ get_or items k x = cc in
    let here : drop k items ≡ x ∷ drop (k + 1) items = drop_more items k x lt ∙ ap (λ (y : Item). y ∷ drop (k + 1) items) (sym same) in
    let old = c.loop-item.text.items in
    step (f (item_view x)) (flat_map f (map item_view (drop (k + 1) items))) old c.push_item.new.text.items _
    c.in_ok-push_item.ensures
    (sym (ap (λ (l : List Item). old ++ flat_map f (map item_view l)) here) ∙ c.loop-item.invariant)
