use Rattle.dg_lasting.proofs.Starting.{starts_lasting}
use Rattle.dg_lasting.proofs.lasting.Lasting.new.Goals as goal

pub returns-clause-starts : goal.returns-clause-starts
returns-clause-starts c =
    starts_lasting c.args.program.now c.args.limits.now c.args.dice.now c.in-Ok.world c.in-Ok-new.gathered c.new-2.result c.in-Ok-new_sites.sites c.in-Ok-new_row.row c.in-Ok.ensures.starts c.in-Ok.ensures.begins c.in-Ok-new.ensures c.new-2.ensures c.in-Ok-new_sites.ensures c.in-Ok-new_row.ensures
