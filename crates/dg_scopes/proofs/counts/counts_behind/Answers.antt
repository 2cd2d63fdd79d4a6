use Rattle.std.proofs.Common.{◌≡◌, ◌<◌, ◌+◌, ◌∷◌, List, drop, get_or, length, map, sym, ◌∙◌, ap, arith}
use Rattle.std.proofs.lemmas.List.{drop_more}
use Rattle.dg_base.specs.Mentions.{Thing, things}
use Rattle.dg_base.specs.TreeView.{item_view, said_view}
use Rattle.dg_base.specs.Walk.{seen, things_at}
use Rattle.dg_base.specs.declared.mentions.Mention.{Mention}
use Rattle.dg_base.specs.declared.tree.Item.{Item}
use Rattle.dg_scopes.specs.Counts.{counted_of, counted_among}
use Rattle.dg_scopes.specs.Scopes.{counted}
use Rattle.dg_scopes.specs.State.{counts_view}
use Rattle.dg_scopes.proofs.CountLemmas.{counted_append}
use Rattle.dg_scopes.proofs.counts.counts_behind.Goals as goal

pub loop-item-preserved : goal.loop-item-preserved
loop-item-preserved c =
    let items = c.args.items.now in
    let k = c.loop-item.item-index in
    let x = c.item-item.result in
    let lt : k < length items = omega arith in
    let is = c.item-item.is in
    let same : x ≡ get_or items k x = cc in
    let here : drop k items ≡ x ∷ drop (k + 1) items = drop_more items k x lt ∙ ap (λ (y : Item). y ∷ drop (k + 1) items) (sym same) in
    let rest = counted_among (map item_view (drop (k + 1) items)) in
    let old = counts_view c.loop-item.counts in
    ap (counted rest) (c.in_ok-counts.ensures ∙ ap (λ (ts : List Thing). counted ts old) (ap (λ (ms : List Mention). things_at (seen ms)) c.as_slice.ensures.value ∙ c.in_ok-mentions.ensures.things))
    ∙ sym (counted_append (things (counted_of (said_view x.body))) rest old)
    ∙ ap (λ (l : List Item). counted (counted_among (map item_view l)) old) (sym here)
    ∙ c.loop-item.invariant
