use Rattle.std.proofs.Common.{◌≤◌, ◌∙◌, List, ℕ, ap, sym, arith, length, map}
use Rattle.std.proofs.Math.ListN.{drop_of_length-le}
use Rattle.dg_base.specs.TreeView.{branch_view}
use Rattle.dg_plain.specs.Plain as spec
use Rattle.dg_plain.proofs.Before.{branches_before, branches_end}
use Rattle.dg_plain.proofs.Views.{each_branch}
use Rattle.dg_plain.proofs.puts.word_branches.Goals as goal

pub returns : goal.returns
returns c =
    let made = c.loop-word.branches.items in
    let le : length c.args.words.now ≤ c.loop-word.word-index = omega arith in
    c.body_of.ensures
    ∙ each_branch made
    ∙ sym (branches_end (map branch_view made))
    ∙ ap (λ (ws : List (List ℕ)). branches_before (map branch_view made) (spec.word_branches c.args.name.now ws)) (sym (drop_of_length-le c.args.words.now le))
    ∙ c.loop-word.invariant
