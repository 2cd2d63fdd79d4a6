use Rattle.std.proofs.Common.{◌∷◌, [], ap, arith}
use Rattle.dg_base.specs.declared.program.Term.{Term}
use Rattle.dg_meaning.specs.Cells.{cells}
use Rattle.dg_mid.proofs.FlatLemmas.{cells_pair}
use Rattle.dg_emit.proofs.terms.Writer.put_node.Goals as goal

pub put_pair-requires-clause-room : goal.put_pair-requires-clause-room
put_pair-requires-clause-room c =
    let p = c.args.self.now.program.now in
    let all = cells_pair p c.args.term.now c.in-Pair.head c.in-Pair.tail c.in-Pair.is in
    let head = ap (λ (t : Term). cells p (t ∷ [])) c.get.ensures in
    omega (arith, all, head, c.requires.room)
