use Rattle.dg_arena.specs.Held.{meaning_of}
use Rattle.dg_meaning.specs.Copies.{copy_cells}
use Rattle.dg_machine.specs.declared.memory.Memory.{Memory}
use Rattle.dg_machine.proofs.Answered.{kept_copied, no_kept_room, spare_fits}
use Rattle.dg_machine.proofs.Kept.{refs_kept}
use Rattle.dg_machine.proofs.memory.Memory.copy_kept.Goals as goal

pub copy-requires : goal.copy-requires
copy-requires c = let some = c.requires in spare_fits some.0 some.1 some.2 c.args.self.now some.3

pub returns-in-Err-clause-copied : goal.returns-in-Err-clause-copied
returns-in-Err-clause-copied c code l m v h is formed =
    let r = c.args.self.now in
    let new : Memory = record r { arena = c.copy.new.arena; kept = c.copy.new.spare } in
    no_kept_room code l m r new h c.in-Err.ensures.keeps c.in-Err.ensures.capacity (copy_cells v) (c.in-Err.ensures.copied v is formed)

pub returns-in-Ok-clause-copied : goal.returns-in-Ok-clause-copied
returns-in-Ok-clause-copied c code l m v h is formed =
    let r = c.args.self.now in
    let new : Memory = record r { arena = c.copy.new.arena; kept = c.copy.new.spare } in
    kept_copied code l m r new h c.in-Ok.ensures.keeps c.in-Ok.ensures.capacity v c.in-Ok.made c.in-Ok.ensures.spare (c.in-Ok.ensures.copied v is formed)

pub returns-in-Err-clause-args : goal.returns-in-Err-clause-args
returns-in-Err-clause-args c vs at = refs_kept (meaning_of c.args.self.now.arena) (meaning_of c.copy.new.arena) c.args.self.now.args.items vs c.in-Err.ensures.keeps.kept at

pub returns-in-Ok-clause-args : goal.returns-in-Ok-clause-args
returns-in-Ok-clause-args c vs at = refs_kept (meaning_of c.args.self.now.arena) (meaning_of c.copy.new.arena) c.args.self.now.args.items vs c.in-Ok.ensures.keeps.kept at
