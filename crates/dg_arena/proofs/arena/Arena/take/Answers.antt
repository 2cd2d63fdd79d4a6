use Rattle.std.proofs.Common.{◌+◌, arith, [], refl, sym, append-nil}
use Rattle.dg_unify.specs.Slots.{Fields}
use Rattle.dg_unify.proofs.Stores.{grown_slots}
use Rattle.dg_arena.specs.Held.{fields_of}
use Rattle.dg_arena.proofs.Making.{behind, marks_grown}
use Rattle.dg_arena.proofs.arena.Arena.take.Goals as goal

pub returns-clause-saved : goal.returns-clause-saved
returns-clause-saved c = λ ms h.
    let f = fields_of c.args.self.now in
    let f' : Fields = behind f f.slots (f.heap + c.args.cells) in
    marks_grown f f' [] [] ms (grown_slots f f' [] (sym (append-nil f.slots)) refl refl refl) (omega arith) h
