use Rattle.std.proofs.Common.{sym}
use Rattle.dg_machine.proofs.Leads.{left_inner, refused, not_refused}
use Rattle.dg_machine.proofs.memory.Memory.refuse.Goals as goal

pub returns-in-None : goal.returns-in-None
returns-in-None c code g l m o b at h = not_refused code l m c.args.self.now c.args.self.now c.args.ops c.args.rest h (sym c.in-None.ensures)

pub returns-in-Some : goal.returns-in-Some
returns-in-Some c code g l m o b at h =
    refused code l m c.args.self.now _ c.args.ops c.args.rest
    (left_inner code l m c.in-Some.inner c.args.self.now c.cut.new.self o h (sym c.in-Some.ensures) c.cut.ensures.below c.cut.ensures.capacity c.cut.ensures.fewer c.cut.ensures.same)
