use Rattle.dg_interp.proofs.Opens.{frame_pushed}
use Rattle.dg_interp.proofs.engine.Engine.push.Goals as goal

pub returns-in-Ok-clause-pushed : goal.returns-in-Ok-clause-pushed
returns-in-Ok-clause-pushed c = frame_pushed c.args.self.now c.args.frame c.push.new.self c.requires.ready c.requires.frame c.in-Ok.ensures.items
