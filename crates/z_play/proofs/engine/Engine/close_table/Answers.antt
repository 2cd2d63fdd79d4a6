use Rattle.std.proofs.Common.{◌-◌, ◌<◌, arith}
use Rattle.z_play.proofs.Rights.{rights_kept, tables_kept}
use Rattle.z_play.proofs.Tabling.{close_failed, is_closed}
use Rattle.z_play.proofs.engine.Engine.close_table.Goals as goal

pub returns-in-Err-clause-kept : goal.returns-in-Err-clause-kept
returns-in-Err-clause-kept c = rights_kept c.args.self.now c.write_word.new.mem c.args.self.now.pc c.requires c.in-Err.ensures.rights

pub returns-in-Ok-clause-kept : goal.returns-in-Ok-clause-kept
returns-in-Ok-clause-kept c = tables_kept c.args.self.now c.write_word.new.mem c.args.self.now.pc c.args.self.now.tables (c.args.self.now.opened - 1) c.requires c.in-Ok.ensures.rights c.requires.sixteen (omega (arith, c.requires.opened))

pub returns-in-Err-clause-closed : goal.returns-in-Err-clause-closed
returns-in-Err-clause-closed c =
    let some : 0 < c.args.self.now.opened = omega (arith, c.if-self-eq0.false) in
    close_failed c.args.self.now c.requires some c.in-Err.fault c.in-Err.ensures.set

pub returns-in-Ok-clause-closed : goal.returns-in-Ok-clause-closed
returns-in-Ok-clause-closed c =
    let some : 0 < c.args.self.now.opened = omega (arith, c.if-self-eq0.false) in
    is_closed c.args.self.now c.requires some c.write_word.new.mem c.in-Ok.ensures.set
