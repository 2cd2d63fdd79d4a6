use Rattle.std.proofs.Common.{map, arith, ◌∷◌, []}
use Rattle.dg_meaning.specs.Values.{value_of}
use Rattle.dg_meaning.specs.Cells.{cells}
use Rattle.dg_mid.specs.State.{vars_of}
use Rattle.dg_machine.specs.declared.memory.Memory.{Memory}
use Rattle.dg_machine.proofs.Putting.{was_put, not_put}
use Rattle.dg_machine.proofs.memory.Memory.put_three.Goals as goal

pub write_three-requires-clause-row : goal.write_three-requires-clause-row
write_three-requires-clause-row c = let some = c.requires in (vars_of some.2.frames, c.row_at_hand-row.ensures some.0 some.1 some.2 some.3)

pub write_three-requires-clause-fits : goal.write_three-requires-clause-fits
write_three-requires-clause-fits c = let some = c.requires in some.3.0.room.refs.path_fit

pub write_three-requires-clause-room : goal.write_three-requires-clause-room
write_three-requires-clause-room c = let some = c.requires in omega (arith, some.3.0.room.refs.args_fit)

pub returns-in-Ok : goal.returns-in-Ok
returns-in-Ok c code l m p is h =
    let r = c.args.self.now in
    let new : Memory = record r { arena = c.write_three.new.arena; args = c.write_three.new.to; path = c.write_three.new.path; kept = c.write_three.new.spare } in
    was_put code l m r new h c.write_three.ensures.keeps c.write_three.ensures.path c.write_three.ensures.spare_room c.write_three.ensures.capacity (omega (arith, c.write_three.ensures.few)) c.in-Ok.ensures.spare (cells p (c.args.a.now ∷ c.args.b.now ∷ c.args.c.now ∷ [])) (map (value_of p (vars_of m.frames)) (c.args.a.now ∷ c.args.b.now ∷ c.args.c.now ∷ []))
    (c.in-Ok.ensures.put p (vars_of m.frames) is (c.row_at_hand-row.ensures code l m h))

pub returns-in-Err : goal.returns-in-Err
returns-in-Err c code l m p is h =
    let r = c.args.self.now in
    let new : Memory = record r { arena = c.write_three.new.arena; args = c.write_three.new.to; path = c.write_three.new.path; kept = c.write_three.new.spare } in
    not_put code l m r new h c.write_three.ensures.keeps c.write_three.ensures.path c.write_three.ensures.spare_room c.write_three.ensures.capacity (omega (arith, c.write_three.ensures.few)) (cells p (c.args.a.now ∷ c.args.b.now ∷ c.args.c.now ∷ []))
    (c.in-Err.ensures.put p (vars_of m.frames) is (c.row_at_hand-row.ensures code l m h))

pub write_three-requires-clause-spare : goal.write_three-requires-clause-spare
write_three-requires-clause-spare c =
    let some = c.requires in
    record { fits = some.3.0.room.refs.kept_fit; few = some.3.0.room.refs.kept_few }
