use Rattle.std.proofs.Common.{List, ℕ, sym, ◌∙◌, ap}
use Rattle.dg_base.proofs.Views.{part_word_seen}
use Rattle.dg_base.specs.Heads.{escaped, part_name}
use Rattle.dg_base.specs.Tree as tree
use Rattle.dg_base.specs.TreeView.{part_view}
use Rattle.dg_put.specs.inside.Marks.{mix_all}
use Rattle.dg_put.proofs.MarkLemmas.{mixed_word}
use Rattle.dg_put.proofs.marks.mix_part.Goals as goal

pub returns-in-Word : goal.returns-in-Word
returns-in-Word c =
    let sum = c.args.sum in
    c.mix_word.ensures ∙ sym (mixed_word sum c.as_slice.result.now) ∙ ap (λ (w : List ℕ). mix_all sum (escaped w)) c.as_slice.ensures
    ∙ sym (ap (λ (p : tree.Part). mix_all sum (part_name p)) (ap part_view c.in-Word.is ∙ part_word_seen c.in-Word.word))
