use Rattle.std.proofs.Common.{◌≡◌, ◌+◌, ◌≤◌}
use Rattle.dg_meaning.specs.Cells as spec
use Rattle.dg_turn.specs.Terms.{capped}
use Rattle.dg_emit.specs.inside.Left.{those, left, nodes_left}
use Rattle.dg_emit.proofs.counting.cells.Given as goal

abbrev pub invariant-loop-term : goal.invariant-loop-term
invariant-loop-term l = (capped (l.count + spec.cells l.program (left l.left)) ≡ capped (spec.cells l.program (those l.terms))) × (l.count ≤ 10001)

abbrev pub decreases-loop-term : goal.decreases-loop-term
decreases-loop-term l = nodes_left l.left
