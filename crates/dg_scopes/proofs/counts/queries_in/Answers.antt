use Rattle.std.proofs.Common.{◌≡◌, ◌<◌, ◌+◌, ◌∷◌, ◌++◌, ℕ, List, drop, get_or, length, map, sym, ◌∙◌, ap, arith}
use Rattle.std.proofs.lemmas.List.{drop_more}
use Rattle.dg_base.specs.Mentions.{Thing, things, weight_of}
use Rattle.dg_base.specs.TreeView.{item_view, said_view}
use Rattle.dg_base.specs.Walk.{seen, things_at}
use Rattle.dg_base.specs.declared.mentions.Mention.{Mention}
use Rattle.dg_base.specs.declared.tree.Item.{Item}
use Rattle.dg_base.proofs.MentionLemmas.{weight_append}
use Rattle.dg_scopes.specs.Counts.{counted_of, counted_among, queries_at}
use Rattle.dg_scopes.proofs.counts.queries_in.Goals as goal

added : (new old here rest all both : ℕ) → new ≡ old + here → both ≡ here + rest → old + both ≡ all → new + rest ≡ all
added new old here rest all both a b e = omega arith

pub loop-item-preserved : goal.loop-item-preserved
loop-item-preserved c =
    let items = c.args.items.now in
    let k = c.loop-item.item-index in
    let x = c.item-item.result in
    let lt : k < length items = omega arith in
    let is = c.item-item.is in
    let same : x ≡ get_or items k x = cc in
    let here : drop k items ≡ x ∷ drop (k + 1) items = drop_more items k x lt ∙ ap (λ (y : Item). y ∷ drop (k + 1) items) (sym same) in
    let ts = things (counted_of (said_view x.body)) in
    let rest = counted_among (map item_view (drop (k + 1) items)) in
    let found = ap (weight_of queries_at) (ap (λ (ms : List Mention). things_at (seen ms)) c.as_slice.ensures.value ∙ c.in_ok-mentions.ensures.things) in
    added c.in_ok-queries.queries c.loop-item.queries (weight_of queries_at ts) (weight_of queries_at rest) (weight_of queries_at (counted_among (map item_view items))) (weight_of queries_at (ts ++ rest))
    (c.in_ok-queries.ensures ∙ ap (λ (w : ℕ). c.loop-item.queries + w) found) (weight_append queries_at ts rest)
    (ap (λ (l : List Item). c.loop-item.queries + weight_of queries_at (counted_among (map item_view l))) (sym here) ∙ c.loop-item.invariant)
