use Rattle.dg_interp.proofs.Goals.{just_cut}
use Rattle.dg_interp.proofs.engine.Engine.just.Goals as goal

pub returns-clause-cut : goal.returns-clause-cut
returns-clause-cut c = just_cut c.args.self.now c.cut.new.choices c.requires.ready c.cut.ensures
