use Rattle.z_play.proofs.Rights.{rights_kept}
use Rattle.z_play.proofs.engine.Engine.copy_table.Goals as goal

pub returns-in-Err-clause-kept : goal.returns-in-Err-clause-kept
returns-in-Err-clause-kept c = rights_kept c.args.self.now c.copy.new.mem c.args.self.now.pc c.requires c.in-Err.ensures.rights

pub returns-in-Ok-clause-kept : goal.returns-in-Ok-clause-kept
returns-in-Ok-clause-kept c = rights_kept c.args.self.now c.copy.new.mem c.args.end c.requires c.in-Ok.ensures.rights
