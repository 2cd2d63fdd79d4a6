use Rattle.z_play.proofs.Rights.{rights_kept}
use Rattle.z_play.proofs.engine.Engine.store_word.Goals as goal

pub returns-in_err-write_word-clause-kept : goal.returns-in_err-write_word-clause-kept
returns-in_err-write_word-clause-kept c = rights_kept c.args.self.now c.write_word.new.mem c.args.self.now.pc c.requires c.in_err-write_word.ensures.rights

pub returns-clause-kept : goal.returns-clause-kept
returns-clause-kept c = rights_kept c.args.self.now c.write_word.new.mem c.args.end c.requires c.in_ok-write_word.ensures.rights
