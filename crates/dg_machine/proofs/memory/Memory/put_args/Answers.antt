use Rattle.std.proofs.Common.{map, arith}
use Rattle.dg_meaning.specs.Values.{value_of}
use Rattle.dg_meaning.specs.Cells.{cells}
use Rattle.dg_mid.specs.State.{vars_of}
use Rattle.dg_machine.specs.declared.memory.Memory.{Memory}
use Rattle.dg_machine.proofs.Putting.{was_put, not_put}
use Rattle.dg_machine.proofs.memory.Memory.put_args.Goals as goal

pub write_terms-requires-clause-row : goal.write_terms-requires-clause-row
write_terms-requires-clause-row c = let some = c.requires.some in (vars_of some.2.frames, c.row_at_hand-row.ensures some.0 some.1 some.2 some.3)

pub write_terms-requires-clause-fits : goal.write_terms-requires-clause-fits
write_terms-requires-clause-fits c = let some = c.requires.some in some.3.0.room.refs.path_fit

pub write_terms-requires-clause-room : goal.write_terms-requires-clause-room
write_terms-requires-clause-room c = let some = c.requires.some in omega (arith, some.3.0.room.refs.args_fit, c.requires.terms)

pub returns-in-Ok : goal.returns-in-Ok
returns-in-Ok c code l m p is h =
    let r = c.args.self.now in
    let new : Memory = record r { arena = c.write_terms.new.arena; args = c.write_terms.new.to; path = c.write_terms.new.path; kept = c.write_terms.new.spare } in
    was_put code l m r new h c.write_terms.ensures.keeps c.write_terms.ensures.path c.write_terms.ensures.spare_room c.write_terms.ensures.capacity (omega (arith, c.write_terms.ensures.few, c.requires.terms)) c.in-Ok.ensures.spare (cells p c.args.terms.now) (map (value_of p (vars_of m.frames)) c.args.terms.now)
    (c.in-Ok.ensures.put p (vars_of m.frames) is (c.row_at_hand-row.ensures code l m h))

pub returns-in-Err : goal.returns-in-Err
returns-in-Err c code l m p is h =
    let r = c.args.self.now in
    let new : Memory = record r { arena = c.write_terms.new.arena; args = c.write_terms.new.to; path = c.write_terms.new.path; kept = c.write_terms.new.spare } in
    not_put code l m r new h c.write_terms.ensures.keeps c.write_terms.ensures.path c.write_terms.ensures.spare_room c.write_terms.ensures.capacity (omega (arith, c.write_terms.ensures.few, c.requires.terms)) (cells p c.args.terms.now)
    (c.in-Err.ensures.put p (vars_of m.frames) is (c.row_at_hand-row.ensures code l m h))

pub write_terms-requires-clause-spare : goal.write_terms-requires-clause-spare
write_terms-requires-clause-spare c =
    let some = c.requires.some in
    record { fits = some.3.0.room.refs.kept_fit; few = some.3.0.room.refs.kept_few }
