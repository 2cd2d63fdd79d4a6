use Rattle.dg_meaning.specs.Copies.{list_of, copy_cells}
use Rattle.dg_machine.specs.declared.memory.Memory.{Memory}
use Rattle.dg_machine.proofs.Answered.{kept_copied, no_kept_room, spare_fits}
use Rattle.dg_machine.proofs.memory.Memory.make_list.Goals as goal

pub returns-in-Ok-clause-made : goal.returns-in-Ok-clause-made
returns-in-Ok-clause-made c code l m vs h is formed =
    let r = c.args.self.now in
    let new : Memory = record r { arena = c.copy_list.new.arena; kept = c.copy_list.new.spare } in
    kept_copied code l m r new h c.copy_list.ensures.keeps c.copy_list.ensures.capacity (list_of vs) c.in-Ok.made c.copy_list.ensures.spare (c.in-Ok.ensures.copied vs (spare_fits code l m r h) is formed)

pub returns-in-Err-clause-made : goal.returns-in-Err-clause-made
returns-in-Err-clause-made c code l m vs h is formed =
    let r = c.args.self.now in
    let new : Memory = record r { arena = c.copy_list.new.arena; kept = c.copy_list.new.spare } in
    no_kept_room code l m r new h c.copy_list.ensures.keeps c.copy_list.ensures.capacity (copy_cells (list_of vs)) (c.in-Err.ensures.copied vs (spare_fits code l m r h) is formed)
