use Rattle.std.proofs.Common.{◌≡◌, ◌+◌, ◌≤◌, ◌++◌}
use Rattle.dg_meaning.specs.Cells as cost
use Rattle.dg_turn.specs.Terms.{AreNodes, nodes_acts}
use Rattle.dg_emit.specs.inside.Left.{those, left, nodes_left}
use Rattle.dg_emit.proofs.terms.Writer.put_nodes.Given as goal

abbrev pub invariant-loop-term : goal.invariant-loop-term
invariant-loop-term l =
    (l.acts ++ nodes_acts l.self.program.now l.offset (cost.nodes_of (left l.left)) ≡ l.initial.acts ++ nodes_acts l.self.program.now 0 (cost.nodes_of (those l.terms)))
    × (l.offset + cost.cells l.self.program.now (left l.left) ≤ 10000)
    × AreNodes l.self.program.now (cost.nodes_of (left l.left))

abbrev pub decreases-loop-term : goal.decreases-loop-term
decreases-loop-term l = nodes_left l.left
