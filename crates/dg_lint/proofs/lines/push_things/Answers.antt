use Rattle.std.proofs.Common.{◌≡◌, ◌+◌, ◌<◌, ◌∷◌, ◌++◌, [], List, drop, get_or, length, sym, ◌∙◌, ap, append-nil, arith}
use Rattle.std.specs.Prelude.{flat_map}
use Rattle.std.proofs.Math.ListN.{drop_of_length-le}
use Rattle.std.proofs.lemmas.List.{drop_more}
use Rattle.dg_base.specs.Walk.{mention_view, thing_at, seen, things_at}
use Rattle.dg_base.specs.declared.mentions.Mention.{Mention}
use Rattle.dg_lint.specs.Lines.{thing_line}
use Rattle.dg_lint.specs.inside.View.{uses_view}
use Rattle.dg_lint.proofs.LineLemmas.{steps}
use Rattle.dg_lint.proofs.lines.push_things.Goals as goal

pub loop-mention-preserved : goal.loop-mention-preserved
loop-mention-preserved c = λ all totals.
    let f = thing_line c.args.place.now (uses_view c.args.uses.now) all in
    let ms = c.args.mentions.now in
    let k = c.loop-mention.mention-index in
    let m = c.mention-item.result in
    let lt : k < length ms = omega arith in
    let is = c.mention-item.is in
    let same : m ≡ get_or ms k m = cc in
    let here : drop k ms ≡ m ∷ drop (k + 1) ms = drop_more ms k m lt ∙ ap (λ (y : Mention). y ∷ drop (k + 1) ms) (sym same) in
    let old = c.loop-mention.text.items in
    steps f (thing_at (mention_view m)) (things_at (seen (drop (k + 1) ms))) old c.push_thing.new.text.items _
    (c.in_ok-push_thing.ensures all totals)
    (sym (ap (λ (l : List Mention). old ++ flat_map f (things_at (seen l))) here) ∙ c.loop-mention.invariant all totals)

pub returns : goal.returns
returns c = λ all totals.
    let f = thing_line c.args.place.now (uses_view c.args.uses.now) all in
    let ms = c.args.mentions.now in
    let none : drop c.loop-mention.mention-index ms ≡ [] = drop_of_length-le ms (omega arith) in
    let old = c.loop-mention.text.items in
    sym (append-nil old)
    ∙ sym (ap (λ (l : List Mention). old ++ flat_map f (things_at (seen l))) none)
    ∙ c.loop-mention.invariant all totals
