use Rattle.std.proofs.Common.{ℕ, List, ◌++◌, ◌∷◌, [], ◌∙◌, ap}
use Rattle.dg_base.specs.Tree as tree
use Rattle.dg_plain.specs.Building.{built_view}
use Rattle.dg_plain.specs.State.{setting_view}
use Rattle.dg_plain.proofs.StepLemmas.{on_ok, parted, part_off, word_off}
use Rattle.dg_plain.proofs.steps.look_parts.Goals as goal

pub returns-in_ok-put_word-in-Word : goal.returns-in_ok-put_word-in-Word
returns-in_ok-put_word-in-Word c =
    let s = (built_view c.args.built.now) in
    on_ok c.put_off_others.result _ _ c.put_off_others.ensures
    (λ put. word_off c.args.puts c.args.parts.now c.first-item.result _ _ c.args.left.now.items _ (setting_view c.args.setting) s _ (parted c.args.parts.now c.first-item.result c.in-len1-up.len_at_least c.first-item.is) c.in-Word.is put (c.in_ok-put_word-in-Word.ensures ∙ ap (λ (n : List ℕ). record s { parts = s.parts ++ tree.part_word n ∷ [] }) c.as_slice.ensures))

pub returns-in-Value : goal.returns-in-Value
returns-in-Value c = on_ok c.put_off_first.result _ _ c.put_off_first.ensures (λ put. part_off c.args.puts c.args.parts.now c.first-item.result _ _ c.args.left.now.items _ (parted c.args.parts.now c.first-item.result c.in-len1-up.len_at_least c.first-item.is) c.in-Value.is put (setting_view c.args.setting) (built_view c.args.built.now))
