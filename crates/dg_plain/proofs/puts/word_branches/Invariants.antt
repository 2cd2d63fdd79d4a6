use Rattle.std.proofs.Common.{◌≡◌, drop, map}
use Rattle.dg_base.specs.TreeView.{branch_view}
use Rattle.dg_plain.specs.Plain as spec
use Rattle.dg_plain.proofs.Before.{branches_before}
use Rattle.dg_plain.proofs.puts.word_branches.Given as goal

abbrev pub invariant-loop-word : goal.invariant-loop-word
invariant-loop-word l = branches_before (map branch_view l.branches.items) (spec.word_branches l.name (drop l.word-index l.words)) ≡ spec.word_branches l.name l.words
