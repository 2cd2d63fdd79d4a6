use Rattle.dg_machine.proofs.RowLemmas.{ruled}
use Rattle.dg_machine.proofs.memory.Memory.fit_rule.Goals as goal

pub returns-clause-held : goal.returns-clause-held
returns-clause-held c code l m h =
    ruled code l m c.args.vars c.fit_row.result c.args.self.now c.take.new.self c.fit_row.new.arena h c.take.ensures.kept c.take.ensures.saved c.take.ensures.taken c.fit_row.ensures.keeps c.fit_row.ensures.made
