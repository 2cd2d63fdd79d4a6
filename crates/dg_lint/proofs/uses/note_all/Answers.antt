use Rattle.std.proofs.Common.{◌≡◌, ◌+◌, ◌<◌, ◌∷◌, List, drop, get_or, length, sym, ◌∙◌, ap, arith}
use Rattle.std.proofs.lemmas.List.{drop_more}
use Rattle.dg_base.specs.Walk.{mention_view, thing_at, seen, things_at}
use Rattle.dg_base.specs.declared.mentions.Mention.{Mention}
use Rattle.dg_lint.specs.inside.View.{used, uses_view}
use Rattle.dg_lint.proofs.UseLemmas.{used_append}
use Rattle.dg_lint.proofs.uses.note_all.Goals as goal

pub loop-mention-preserved : goal.loop-mention-preserved
loop-mention-preserved c =
    let ms = c.args.mentions.now in
    let all = c.args.all in
    let k = c.loop-mention.mention-index in
    let m = c.mention-item.result in
    let lt : k < length ms = omega arith in
    let is = c.mention-item.is in
    let same : m ≡ get_or ms k m = cc in
    let here : drop k ms ≡ m ∷ drop (k + 1) ms = drop_more ms k m lt ∙ ap (λ (y : Mention). y ∷ drop (k + 1) ms) (sym same) in
    ap (used all (things_at (seen (drop (k + 1) ms)))) c.in_ok-note.ensures
    ∙ sym (used_append all (thing_at (mention_view m)) (things_at (seen (drop (k + 1) ms))) (uses_view c.loop-mention.uses))
    ∙ sym (ap (λ (l : List Mention). used all (things_at (seen l)) (uses_view c.loop-mention.uses)) here)
    ∙ c.loop-mention.invariant
