use Rattle.std.proofs.Common.{◌≡◌, [], ◌∷◌}
use Rattle.dg_meaning.specs.Cells.{nodes_of}
use Rattle.dg_turn.specs.Turns as turns
use Rattle.dg_emit.specs.inside.Left.{left, nodes_left}
use Rattle.dg_emit.proofs.heads.above.Given as goal

abbrev pub invariant-loop-node : goal.invariant-loop-node
invariant-loop-node l = turns.above l.above (nodes_of (left l.left)) ≡ turns.above l.number (nodes_of (l.term ∷ []))

abbrev pub decreases-loop-node : goal.decreases-loop-node
decreases-loop-node l = nodes_left l.left
