use Rattle.dg_interp.proofs.Parts.{stop_lasting, stop_made}
use Rattle.dg_interp.proofs.engine.Engine.stop.Goals as goal

pub stop_to-requires : goal.stop_to-requires
stop_to-requires c = record { sound = c.requires.ready.sound }

pub returns-in-None : goal.returns-in-None
returns-in-None c = stop_lasting c.args.self.now c.in-None.is

pub returns-in-Some : goal.returns-in-Some
returns-in-Some c = stop_made c.args.self.now c.stop_to.new.self c.in-Some.tag c.in-Some.is c.stop_to.result c.stop_to.ensures
