use Rattle.std.proofs.Common.{◌≡◌, drop, map}
use Rattle.dg_base.specs.Tree as tree
use Rattle.dg_base.specs.TreeView.{part_view}
use Rattle.dg_reader.specs.Grammar.{are_words}
use Rattle.dg_reader.proofs.keyword.are_named.Given as goal

abbrev pub invariant-loop-at : goal.invariant-loop-at
invariant-loop-at l = are_words (tree.parts_of (map part_view (drop l.at l.parts))) (map (λ w. w.now) (drop l.at l.words)) ≡ are_words (tree.parts_of (map part_view l.parts)) (map (λ w. w.now) l.words)
