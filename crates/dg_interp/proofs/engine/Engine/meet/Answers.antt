use Rattle.dg_interp.specs.inside.Engine.{branches_left}
use Rattle.dg_interp.proofs.Giving.{equation}
use Rattle.dg_interp.proofs.TakingOut.{met, met_full, no_more}
use Rattle.dg_interp.proofs.engine.Engine.meet.Goals as goal

pub returns-clause-met : goal.returns-clause-met
returns-clause-met c = met (equation c.args.a c.args.b c.args.self.now) c.args.self.now c.unify.new.store c.requires.ready c.unify.ensures.kept c.unify.ensures.saved c.unify.result c.unify.ensures.unified

pub returns-clause-full : goal.returns-clause-full
returns-clause-full c = met_full (equation c.args.a c.args.b c.args.self.now) c.args.self.now c.unify.new.store c.requires.ready c.unify.ensures.kept c.unify.ensures.saved c.unify.result c.unify.ensures.unified

pub returns-clause-fewer : goal.returns-clause-fewer
returns-clause-fewer c = no_more c.unify.result (branches_left c.args.self.now)
