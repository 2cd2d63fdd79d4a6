use Rattle.std.proofs.Common.{ℕ, List, ◌++◌, ◌∷◌, [], ◌∙◌, ap}
use Rattle.dg_base.specs.Tree as tree
use Rattle.dg_plain.specs.Building.{built_view}
use Rattle.dg_plain.proofs.StepLemmas.{on_ok, parted}
use Rattle.dg_put.specs.inside.Putting.{around}
use Rattle.dg_put.proofs.StepLemmas.{part_off, word_off}
use Rattle.dg_put.proofs.steps.look_parts.Goals as goal

pub returns-in_ok-put_word-in-Word : goal.returns-in_ok-put_word-in-Word
returns-in_ok-put_word-in-Word c =
    let s = (built_view c.args.weighed.now.built) in
    on_ok c.put_off_one.result _ _ c.put_off_one.ensures
    (λ put. word_off c.args.at c.args.parts.now c.first-item.result _ _ c.args.left.now.items _ (around c.args.uses) s _ (parted c.args.parts.now c.first-item.result c.in-len1-up.len_at_least c.first-item.is) c.in-Word.is put (c.in_ok-put_word-in-Word.ensures ∙ ap (λ (n : List ℕ). record s { parts = s.parts ++ tree.part_word n ∷ [] }) c.as_slice.ensures))

pub returns-in-Value : goal.returns-in-Value
returns-in-Value c = on_ok c.put_off_first.result _ _ c.put_off_first.ensures (λ put. part_off c.args.at c.args.parts.now c.first-item.result _ _ c.args.left.now.items _ (parted c.args.parts.now c.first-item.result c.in-len1-up.len_at_least c.first-item.is) c.in-Value.is put (around c.args.uses) (built_view c.args.weighed.now.built))
