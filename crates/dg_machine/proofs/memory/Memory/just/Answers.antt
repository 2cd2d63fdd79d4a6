use Rattle.std.proofs.Common.{sym}
use Rattle.dg_mid.specs.State.{cut_of}
use Rattle.dg_mid.specs.Step.{cut_to}
use Rattle.dg_machine.proofs.Hands.{nothing_more}
use Rattle.dg_machine.proofs.Leads.{just_some, just_none}
use Rattle.dg_machine.proofs.memory.Memory.just.Goals as goal

pub returns-in-Some : goal.returns-in-Some
returns-in-Some c t code g is_of l m o b at h =
    (at, nothing_more code l c.cut.new.self (cut_to (cut_of m.frames) m) (just_some code l m c.in-Some.frame c.args.self.now c.cut.new.self o h (sym c.in-Some.ensures) c.cut.ensures.below c.cut.ensures.capacity c.cut.ensures.fewer c.cut.ensures.same))

pub returns-in-None : goal.returns-in-None
returns-in-None c t code g is_of l m o b at h =
    (at, nothing_more code l c.cut-in-None.new.self (cut_to (cut_of m.frames) m) (just_none code l m c.args.self.now c.cut-in-None.new.self o h (sym c.in-None.ensures) c.cut-in-None.ensures.below c.cut-in-None.ensures.capacity c.cut-in-None.ensures.fewer c.cut-in-None.ensures.same))
