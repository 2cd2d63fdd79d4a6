use Rattle.dg_machine.proofs.RowLemmas.{ruled}
use Rattle.dg_machine.proofs.memory.Memory.make_rule.Goals as goal

pub returns-in-Ok-make_row-clause-held : goal.returns-in-Ok-make_row-clause-held
returns-in-Ok-make_row-clause-held c code l m h =
    let first = c.in-Ok.ensures in
    let row = c.in-Ok-make_row.ensures in
    ruled code l m c.args.vars c.in-Ok-make_row.row c.args.self.now c.charge.new.self c.make_row.new.arena h first.kept first.saved first.made row.keeps row.made
