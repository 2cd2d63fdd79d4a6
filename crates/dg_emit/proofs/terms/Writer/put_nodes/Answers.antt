use Rattle.std.proofs.Common.{◌∙◌, arith}
use Rattle.dg_emit.proofs.Left.{fewer_left}
use Rattle.dg_emit.proofs.Nodes.{node_next}
use Rattle.dg_emit.proofs.terms.Writer.put_nodes.Goals as goal

pub loop-term-smaller : goal.loop-term-smaller
loop-term-smaller c =
    let one = fewer_left c.loop-term.left c.pop.new.self c.add_parts.new.made c.in-Some.term c.in-Some.ensures c.in_ok-add_parts.ensures in
    omega (arith, one)

pub loop-term-preserved : goal.loop-term-preserved
loop-term-preserved c =
    let i = c.loop-term.invariant in
    let n = node_next c.args.self.now.program.now c.loop-term.offset c.node_cells-offset.result c.loop-term.acts c.put_node.new.acts c.loop-term.left c.pop.new.self c.add_parts.new.made c.in-Some.term
    c.in-Some.ensures c.in_ok-add_parts.ensures c.node_cells-offset.ensures c.in_ok-put_node.ensures i.1 i.2 in
    (n.acts_are ∙ i.0, n.room, n.nodes)
