use Rattle.std.proofs.Common.{arith}
use Rattle.z_play.specs.View.{layout_in, machine}
use Rattle.z_play.proofs.Stored.{none_placed}
use Rattle.z_play.proofs.engine.Engine.place.Goals as goal

pub returns-clause-placed : goal.returns-clause-placed
returns-clause-placed c = none_placed (layout_in c.args.self.now) (machine c.args.self.now) c.args.v c.args.x (omega arith)
