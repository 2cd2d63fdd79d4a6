use Rattle.std.proofs.Common.{◌≡◌, ◌+◌, ◌≤◌, ◌++◌, length, drop}
use Rattle.dg_meaning.specs.Cells as cost
use Rattle.dg_turn.specs.Terms.{AreNodes, words_acts}
use Rattle.dg_emit.specs.inside.Left.{those}
use Rattle.dg_emit.proofs.terms.Writer.put_words.Given as goal

abbrev pub invariant-loop-term : goal.invariant-loop-term
invariant-loop-term l =
    (l.acts ++ words_acts l.self.program.now l.variable (l.offset) (those (drop l.term-index l.terms)) ≡ l.initial.acts ++ words_acts l.self.program.now l.initial.variable 0 (those l.terms))
    × (l.offset + cost.cells l.self.program.now (those (drop l.term-index l.terms)) ≤ 10000)
    × (l.variable + length (those (drop l.term-index l.terms)) ≤ 255)
    × AreNodes l.self.program.now (cost.nodes_of (those (drop l.term-index l.terms)))
