use Rattle.std.proofs.Common.{ℕ, sym, ap, ◌∙◌, arith}
use Rattle.dg_meaning.specs.Cells.{nodes_of}
use Rattle.dg_turn.specs.Turns as turns
use Rattle.dg_emit.specs.inside.Left.{left}
use Rattle.dg_emit.proofs.Left.{fewer_left}
use Rattle.dg_emit.proofs.NewNodes.{above_left}
use Rattle.dg_emit.proofs.heads.above.Goals as goal

pub loop-node-smaller : goal.loop-node-smaller
loop-node-smaller c =
    let one = fewer_left c.loop-node.left c.pop.new.self c.add_parts.new.made c.in-Some.node c.in-Some.ensures c.in_ok-add_parts.ensures in
    omega (arith, one)

pub loop-node-preserved : goal.loop-node-preserved
loop-node-preserved c =
    let here = above_left c.loop-node.above c.loop-node.left c.pop.new.self c.add_parts.new.made c.in-Some.node c.in-Some.ensures c.in_ok-add_parts.ensures in
    ap (λ (n : ℕ). turns.above n (nodes_of (left c.add_parts.new.made))) c.above_node-above.ensures ∙ sym here ∙ c.loop-node.invariant
