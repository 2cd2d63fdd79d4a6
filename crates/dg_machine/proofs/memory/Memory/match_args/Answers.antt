use Rattle.std.proofs.Common.{arith, sym, subst}
use Rattle.std.specs.Prelude.{Ok, Err}
use Rattle.std.specs.List.{zip}
use Rattle.dg_arena.specs.Held.{meaning_of}
use Rattle.dg_machine.specs.Refs.{RefsAt}
use Rattle.dg_machine.proofs.Matching.{matched_in, heap_after, room_after}
use Rattle.dg_machine.proofs.memory.Memory.match_args.Goals as goal

pub returns-in-Err-clause-matched : goal.returns-in-Err-clause-matched
returns-in-Err-clause-matched c code l m us ws h ha hb =
    let s = meaning_of c.args.self.now.arena in
    matched_in code l m c.args.self.now c.match_heads.new.arena (zip us ws) h c.in-Err.ensures.keeps (Err c.in-Err.full)
    (c.in-Err.ensures.matched us ws (subst (λ rs. RefsAt s rs us) (sym c.as_slice.ensures.value) ha) (subst (λ rs. RefsAt s rs ws) (sym c.as_slice-2.ensures.value) hb))

pub returns-in-Ok-clause-matched : goal.returns-in-Ok-clause-matched
returns-in-Ok-clause-matched c code l m us ws h ha hb =
    let s = meaning_of c.args.self.now.arena in
    matched_in code l m c.args.self.now c.match_heads.new.arena (zip us ws) h c.in-Ok.ensures.keeps (Ok c.in-Ok.agreed)
    (c.in-Ok.ensures.matched us ws (subst (λ rs. RefsAt s rs us) (sym c.as_slice.ensures.value) ha) (subst (λ rs. RefsAt s rs ws) (sym c.as_slice-2.ensures.value) hb))

pub returns-in-Ok-clause-room : goal.returns-in-Ok-clause-room
returns-in-Ok-clause-room c =
    let s = meaning_of c.args.self.now.arena in
    let us = c.requires.args in
    let ws = c.requires.heads in
    room_after c.args.self.now c.match_heads.new.arena c.requires.room c.in-Ok.ensures.keeps
    (heap_after c.args.self.now c.match_heads.new.arena (zip us.0 ws.0) c.in-Ok.agreed (c.in-Ok.ensures.matched us.0 ws.0 (subst (λ rs. RefsAt s rs us.0) (sym c.as_slice.ensures.value) us.1) (subst (λ rs. RefsAt s rs ws.0) (sym c.as_slice-2.ensures.value) ws.1)))

pub returns-in-Ok-clause-few : goal.returns-in-Ok-clause-few
returns-in-Ok-clause-few c =
    let s = meaning_of c.args.self.now.arena in
    let us = c.requires.args in
    let ws = c.requires.heads in
    omega (arith, c.requires.few, heap_after c.args.self.now c.match_heads.new.arena (zip us.0 ws.0) c.in-Ok.agreed (c.in-Ok.ensures.matched us.0 ws.0 (subst (λ rs. RefsAt s rs us.0) (sym c.as_slice.ensures.value) us.1) (subst (λ rs. RefsAt s rs ws.0) (sym c.as_slice-2.ensures.value) ws.1)))
