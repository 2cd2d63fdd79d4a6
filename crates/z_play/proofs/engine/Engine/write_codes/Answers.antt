use Rattle.std.proofs.Common.{length-set, arith}
use Rattle.z_play.proofs.Rights.{rights_kept, tables_kept}
use Rattle.z_play.proofs.Tabling.{codes_failed, codes_written}
use Rattle.z_play.proofs.engine.Engine.write_codes.Goals as goal

pub returns-in-Err-clause-kept : goal.returns-in-Err-clause-kept
returns-in-Err-clause-kept c = rights_kept c.args.self.now c.write_bytes.new.mem c.args.self.now.pc c.requires.sound c.in-Err.ensures.rights

pub returns-in-Ok-clause-kept : goal.returns-in-Ok-clause-kept
returns-in-Ok-clause-kept c = tables_kept c.args.self.now c.write_bytes.new.mem c.args.self.now.pc _ c.args.self.now.opened c.requires.sound c.in-Ok.ensures.rights (omega (arith, length-set c.args.self.now.tables, c.requires.sound.sixteen)) c.requires.sound.opened

pub returns-in-Err-clause-into : goal.returns-in-Err-clause-into
returns-in-Err-clause-into c = codes_failed c.args.self.now c.requires.sound c.requires.some c.args.codes.now c.in-Err.fault c.in-Err.ensures.set

pub returns-in-Ok-clause-into : goal.returns-in-Ok-clause-into
returns-in-Ok-clause-into c = codes_written c.args.self.now c.requires.sound c.requires.some c.args.codes.now c.write_bytes.new.mem c.in-Ok.ensures.set
