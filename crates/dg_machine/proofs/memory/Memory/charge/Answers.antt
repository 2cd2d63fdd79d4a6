use Rattle.std.proofs.Common.{refl}
use Rattle.dg_arena.specs.Held.{meaning_of}
use Rattle.dg_machine.proofs.Opens.{took, lacks, kept_same}
use Rattle.dg_machine.proofs.memory.Memory.charge.Goals as goal

pub returns-in-Ok-clause-held : goal.returns-in-Ok-clause-held
returns-in-Ok-clause-held c code l m h = took code l m c.args.cells c.args.self.now c.charge.new.self h c.in-Ok.ensures.kept c.in-Ok.ensures.saved c.in-Ok.ensures.made

pub returns-in-Err-clause-held : goal.returns-in-Err-clause-held
returns-in-Err-clause-held c code l m h =
    let a = c.args.self.now.arena in
    lacks code l m c.args.cells c.args.self.now a c.charge.new.self c.in-Err.full h (kept_same (meaning_of a)) refl c.in-Err.ensures.kept c.in-Err.ensures.made
