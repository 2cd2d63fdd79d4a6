use Rattle.std.proofs.Common.{map, arith, ap}
use Rattle.dg_meaning.specs.Values.{value_of}
use Rattle.dg_meaning.specs.Cells.{cells}
use Rattle.dg_unify.specs.Store.{State}
use Rattle.dg_machine.specs.declared.memory.Memory.{Memory}
use Rattle.dg_machine.proofs.Putting.{was_headed, not_headed, headed_room}
use Rattle.dg_machine.proofs.TableLemmas.{a_program, a_program_is}
use Rattle.dg_machine.proofs.memory.Memory.write_head.Goals as goal

pub returns-in-Ok-clause-put : goal.returns-in-Ok-clause-put
returns-in-Ok-clause-put c code l m p vs is h at =
    let r = c.args.self.now in
    let new : Memory = record r { arena = c.write_terms.new.arena; heads = c.write_terms.new.to; path = c.write_terms.new.path; kept = c.write_terms.new.spare } in
    was_headed code l m r new h c.write_terms.ensures.keeps c.write_terms.ensures.path c.write_terms.ensures.spare_room c.write_terms.ensures.capacity c.in-Ok.ensures.spare (cells p c.args.head.now) (map (value_of p vs) c.args.head.now) (c.in-Ok.ensures.put p vs is at)

pub returns-in-Err-clause-put : goal.returns-in-Err-clause-put
returns-in-Err-clause-put c code l m p vs is h at =
    let r = c.args.self.now in
    let new : Memory = record r { arena = c.write_terms.new.arena; heads = c.write_terms.new.to; path = c.write_terms.new.path; kept = c.write_terms.new.spare } in
    not_headed code l m r new h c.write_terms.ensures.keeps c.write_terms.ensures.path c.write_terms.ensures.spare_room c.write_terms.ensures.capacity (cells p c.args.head.now) (c.in-Err.ensures.put p vs is at)

pub returns-in-Ok-clause-heads : goal.returns-in-Ok-clause-heads
returns-in-Ok-clause-heads c =
    let row = c.requires.row in
    let x = c.in-Ok.ensures.put (a_program c.args.tables.now) row.0 (a_program_is c.args.tables.now) row.1 in
    (map (value_of (a_program c.args.tables.now) row.0) c.args.head.now, x.refs_are)

pub returns-in-Ok-clause-room : goal.returns-in-Ok-clause-room
returns-in-Ok-clause-room c =
    let r = c.args.self.now in
    let row = c.requires.row in
    let new : Memory = record r { arena = c.write_terms.new.arena; heads = c.write_terms.new.to; path = c.write_terms.new.path; kept = c.write_terms.new.spare } in
    headed_room r new c.requires.room c.write_terms.ensures.keeps c.write_terms.ensures.path c.in-Ok.ensures.spare c.write_terms.ensures.spare_room c.write_terms.ensures.capacity (cells (a_program c.args.tables.now) c.args.head.now) (map (value_of (a_program c.args.tables.now) row.0) c.args.head.now) (c.in-Ok.ensures.put (a_program c.args.tables.now) row.0 (a_program_is c.args.tables.now) row.1)

pub returns-in-Ok-clause-few : goal.returns-in-Ok-clause-few
returns-in-Ok-clause-few c =
    let row = c.requires.row in
    let x = c.in-Ok.ensures.put (a_program c.args.tables.now) row.0 (a_program_is c.args.tables.now) row.1 in
    omega (arith, c.requires.few, ap (λ (s : State). s.heap) x.charged.state)

pub write_terms-requires-clause-spare : goal.write_terms-requires-clause-spare
write_terms-requires-clause-spare c = record { fits = c.requires.room.refs.kept_fit; few = c.requires.room.refs.kept_few }
