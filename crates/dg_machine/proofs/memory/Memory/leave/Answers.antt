use Rattle.std.proofs.Common.{sym}
use Rattle.dg_machine.proofs.Parts.{left_part, not_left}
use Rattle.dg_machine.proofs.memory.Memory.leave.Goals as goal

pub returns-in-None : goal.returns-in-None
returns-in-None c code g l m o b at h = not_left code g l m c.args.self.now c.args.ops h (sym c.in-None.ensures)

pub returns-in-Some : goal.returns-in-Some
returns-in-Some c code g l m o b at h =
    left_part code g l m c.in-Some.inner c.args.self.now c.cut.new.self c.args.ops c.args.rest o h (sym c.in-Some.ensures) c.cut.ensures.below c.cut.ensures.capacity c.cut.ensures.fewer c.cut.ensures.same at
