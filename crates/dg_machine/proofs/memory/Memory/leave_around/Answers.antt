use Rattle.dg_machine.proofs.Trying.{left_out}
use Rattle.dg_machine.proofs.memory.Memory.leave_around.Goals as goal

pub returns : goal.returns
returns c code g l m o h = left_out code g l m c.args.height c.args.ops c.args.self.now c.cut.new.self o h c.cut.ensures.below c.cut.ensures.capacity c.cut.ensures.fewer c.cut.ensures.same
