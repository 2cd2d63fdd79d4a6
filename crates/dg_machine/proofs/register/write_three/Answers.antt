use Rattle.std.proofs.Common.{◌∷◌, [], ap, arith, vec_capacity}
use Rattle.dg_unify.specs.Store.{State}
use Rattle.dg_meaning.specs.Values.{value_of}
use Rattle.dg_meaning.specs.Cells.{cells}
use Rattle.dg_arena.specs.Held.{meaning_of}
use Rattle.dg_machine.proofs.Kept.{row_kept}
use Rattle.dg_machine.proofs.TableLemmas.{a_program, a_program_is}
use Rattle.dg_machine.proofs.WriteSteps.{overflows_more}
use Rattle.dg_machine.proofs.RegisterLemmas.{spare_on, put_behind, cells_three}
use Rattle.dg_machine.proofs.register.write_three.Goals as goal

pub write_next-requires-clause-row : goal.write_next-requires-clause-row
write_next-requires-clause-row c = let row = c.requires.row in (row.0, row_kept (meaning_of c.args.arena.now) (meaning_of c.write_both.new.arena) c.args.row.now row.0 c.in-Ok.ensures.keeps.kept row.1)

pub write_next-requires-clause-spare : goal.write_next-requires-clause-spare
write_next-requires-clause-spare c =
    let row = c.requires.row in
    let first = c.in-Ok.ensures.put (a_program c.args.tables.now) row.0 (a_program_is c.args.tables.now) row.1 in
    spare_on (meaning_of c.args.arena.now) (meaning_of c.write_both.new.arena) c.args.spare.now.items c.write_both.new.spare.items (vec_capacity c.args.spare.now) (vec_capacity c.write_both.new.spare) c.in-Ok.ensures.keeps.kept (let heap = ap (λ (s : State). s.heap) first.charged.state in omega (arith, heap)) c.in-Ok.ensures.spare c.in-Ok.ensures.spare_room c.requires.spare

pub returns-in-Err-clause-put : goal.returns-in-Err-clause-put
returns-in-Err-clause-put c p vs is at = overflows_more (cells p (c.args.a.now ∷ c.args.b.now ∷ [])) (cells p (c.args.c.now ∷ [])) (cells p (c.args.a.now ∷ c.args.b.now ∷ c.args.c.now ∷ [])) (meaning_of c.args.arena.now) (cells_three p c.args.a.now c.args.b.now c.args.c.now) (c.in-Err.ensures.put p vs is at)

pub returns-in-Ok-clause-put : goal.returns-in-Ok-clause-put
returns-in-Ok-clause-put c p vs is at =
    let old = meaning_of c.args.arena.now in
    let mid = meaning_of c.write_both.new.arena in
    let first = c.in-Ok.ensures.put p vs is at in
    let us = value_of p vs c.args.a.now ∷ value_of p vs c.args.b.now ∷ [] in
    put_behind (cells p (c.args.a.now ∷ c.args.b.now ∷ [])) (cells p (c.args.c.now ∷ [])) (cells p (c.args.a.now ∷ c.args.b.now ∷ c.args.c.now ∷ [])) us (value_of p vs c.args.a.now ∷ value_of p vs c.args.b.now ∷ value_of p vs c.args.c.now ∷ []) old mid (meaning_of c.write_next.new.arena) c.write_both.new.to.items c.write_next.new.to.items c.write_next.result
    (cells_three p c.args.a.now c.args.b.now c.args.c.now) c.in-Ok.ensures.keeps.kept first (c.write_next.ensures.put p us vs is first.refs_are (row_kept old mid c.args.row.now vs c.in-Ok.ensures.keeps.kept at))
