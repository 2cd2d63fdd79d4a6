use Rattle.std.proofs.Common.{◌≡◌, ℕ, true, sym, ap, ◌∙◌, arith}
use Rattle.dg_base.specs.declared.program.Term.{out-Term}
use Rattle.dg_meaning.specs.Cells.{nodes_of}
use Rattle.dg_turn.specs.Turns as turns
use Rattle.dg_emit.specs.inside.Left.{left}
use Rattle.dg_emit.proofs.Left.{fewer_left}
use Rattle.dg_emit.proofs.NewNodes.{new_left}
use Rattle.dg_emit.proofs.heads.matcher.Goals as goal

pub loop-node-smaller : goal.loop-node-smaller
loop-node-smaller c =
    let one = fewer_left c.loop-node.left c.pop.new.self c.add_parts.new.made c.in-Some.node c.in-Some.ensures c.in_ok-add_parts.ensures in
    omega (arith, one)

pub loop-node-preserved : goal.loop-node-preserved
loop-node-preserved c =
    let new : turns.is_new c.loop-node.above (out-Term c.in-Some.node.now) ≡ true = sym c.is_new.ensures ∙ c.if-not-is_new.false in
    let here = new_left c.loop-node.above c.loop-node.left c.pop.new.self c.add_parts.new.made c.in-Some.node c.in-Some.ensures c.in_ok-add_parts.ensures new in
    ap (λ (n : ℕ). turns.are_new n (nodes_of (left c.add_parts.new.made))) c.above_node-above.ensures ∙ sym here ∙ c.loop-node.invariant
