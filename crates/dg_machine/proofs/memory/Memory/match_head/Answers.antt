use Rattle.std.proofs.Common.{map, arith, sym, subst}
use Rattle.std.specs.Prelude.{Ok, Err}
use Rattle.std.specs.List.{zip}
use Rattle.dg_meaning.specs.Values.{value_of}
use Rattle.dg_arena.specs.Held.{meaning_of}
use Rattle.dg_machine.specs.Refs.{RefsAt}
use Rattle.dg_machine.proofs.Matching.{matched_at, room_grown}
use Rattle.dg_machine.proofs.HeadMatching.{no_program}
use Rattle.dg_machine.proofs.memory.Memory.match_head.Goals as goal

pub returns-in-Err-clause-matched : goal.returns-in-Err-clause-matched
returns-in-Err-clause-matched c code l m p us vs h ha hr =
    let s = meaning_of c.args.self.now.arena in
    matched_at code l m c.args.self.now c.match_flats.new.arena (zip us (map (value_of p vs) c.args.head.now)) h c.in-Err.ensures.keeps c.args.cells (Err c.in-Err.full)
    (c.in-Err.ensures.matched p us vs (subst (λ rs. RefsAt s rs us) (sym c.as_slice.ensures.value) ha) hr)

pub returns-in-Ok-clause-matched : goal.returns-in-Ok-clause-matched
returns-in-Ok-clause-matched c code l m p us vs h ha hr =
    let s = meaning_of c.args.self.now.arena in
    matched_at code l m c.args.self.now c.match_flats.new.arena (zip us (map (value_of p vs) c.args.head.now)) h c.in-Ok.ensures.keeps c.args.cells (Ok c.in-Ok.agreed)
    (c.in-Ok.ensures.matched p us vs (subst (λ rs. RefsAt s rs us) (sym c.as_slice.ensures.value) ha) hr)

pub returns-in-Ok-clause-room : goal.returns-in-Ok-clause-room
returns-in-Ok-clause-room c =
    let s = meaning_of c.args.self.now.arena in
    let us = c.requires.args in
    let vs = c.requires.row in
    let x = c.in-Ok.ensures.matched no_program us.0 vs.0 (subst (λ rs. RefsAt s rs us.0) (sym c.as_slice.ensures.value) us.1) vs.1 in
    room_grown c.args.self.now c.match_flats.new.arena c.requires.room c.in-Ok.ensures.keeps (omega (arith, x.binds.heap))

pub returns-in-Ok-clause-few : goal.returns-in-Ok-clause-few
returns-in-Ok-clause-few c =
    let s = meaning_of c.args.self.now.arena in
    let us = c.requires.args in
    let vs = c.requires.row in
    let x = c.in-Ok.ensures.matched no_program us.0 vs.0 (subst (λ rs. RefsAt s rs us.0) (sym c.as_slice.ensures.value) us.1) vs.1 in
    omega (arith, c.requires.few, x.binds.heap)
