use Rattle.std.proofs.Common.{◌+◌, List, ℕ, ◌++◌, map, drop, sym, refl, ◌∙◌, ap, append_assoc}
use Rattle.dg_base.specs.Walk.{mention_view, seen, thing_at, things_at}
use Rattle.dg_base.specs.declared.mentions.Mention.{Mention}
use Rattle.dg_put.specs.inside.Putting.{access_view}
use Rattle.dg_access.specs.inside.Rows.{asked}
use Rattle.dg_access.proofs.RowLemmas.{asked_append}
use Rattle.dg_put.proofs.Dropped.{dropped_item}
use Rattle.dg_access.proofs.loops.row_among.Goals as goal

pub loop-mention-preserved : goal.loop-mention-preserved
loop-mention-preserved c =
    let rules = map access_view c.args.rules.all.now in
    let ms = c.args.mentions.now in
    let i = c.loop-mention.mention-index in
    let m = c.mention-item.result in
    let made = c.loop-mention.row.items in
    let others = things_at (seen (drop (i + 1) ms)) in
    ap (λ (l : List ℕ). l ++ asked rules others) c.in_ok-add_asked.ensures
    ∙ append_assoc made (asked rules (thing_at (mention_view m))) (asked rules others)
    ∙ ap (λ (l : List ℕ). made ++ l) (sym (asked_append rules (thing_at (mention_view m)) others))
    ∙ sym (ap (λ (l : List Mention). made ++ asked rules (things_at (seen l))) (dropped_item ms i (i + 1) m refl c.mention-item.is c.loop-mention-test.true))
    ∙ c.loop-mention.invariant
