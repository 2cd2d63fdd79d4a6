use Rattle.z_play.proofs.Rights.{rights_kept}
use Rattle.z_play.proofs.engine.Engine.store_byte.Goals as goal

pub returns-in_err-write-clause-kept : goal.returns-in_err-write-clause-kept
returns-in_err-write-clause-kept c = rights_kept c.args.self.now c.write.new.self c.args.self.now.pc c.requires c.in_err-write.ensures.rights

pub returns-clause-kept : goal.returns-clause-kept
returns-clause-kept c = rights_kept c.args.self.now c.write.new.self c.args.end c.requires c.in_ok-write.ensures.rights
