use Rattle.std.proofs.Common.{ℕ, ◌-◌, ◌/◌, ◌%◌, ◌++◌, List, replicate, ap, ◌∙◌}
use Rattle.dg_rt.specs.Cells.{at_cell}
use Rattle.dg_story.proofs.KeptBytes.{two_zeros}
use Rattle.dg_story.proofs.kept.put_owner.Goals as goal

pub returns-in_ok-put_zeros-2 : goal.returns-in_ok-put_zeros-2
returns-in_ok-put_zeros-2 c =
    let w = at_cell c.args.entry in
    let k = c.args.words - 1 in
    c.in_ok-put_zeros-2.ensures ∙ ap (λ (l : List ℕ). l ++ replicate k 0) (c.in_ok-put_zeros.ensures ∙ ap (λ (l : List ℕ). l ++ replicate k 0) c.in_ok-put_word.ensures)
    ∙ two_zeros k c.args.bytes.now (w / 256) (w % 256)
