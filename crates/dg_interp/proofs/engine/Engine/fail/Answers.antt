use Rattle.std.proofs.Common.{refl}
use Rattle.dg_base.specs.declared.program.Goal.TheVariants.{Fail}
use Rattle.dg_interp.specs.inside.Engine.{store_in, FailsAt, TakesAt}
use Rattle.dg_interp.proofs.Places.{limits_here}
use Rattle.dg_interp.proofs.Goals.{fails_taken}
use Rattle.dg_interp.proofs.Branches.{full_made, back_made}
use Rattle.dg_interp.proofs.engine.Engine.fail.Goals as goal

pub returns-clause-full : goal.returns-clause-full
returns-clause-full c = full_made (TakesAt Fail c.args.self.now) (FailsAt c.args.self.now) (store_in c.args.self.now.store) (store_in c.args.self.now.store) c.back.result refl refl (fails_taken c.args.self.now) c.back.ensures.full

pub returns-clause-failed : goal.returns-clause-failed
returns-clause-failed c = back_made (TakesAt Fail c.args.self.now) (FailsAt c.args.self.now) c.args.self.now c.args.self.now c.back.new.self refl (limits_here c.args.self.now) (fails_taken c.args.self.now) c.back.result c.back.ensures.back
