use Rattle.std.proofs.Common.{◌∷◌, [], arith}
use Rattle.std.specs.Prelude.{Ok, Err}
use Rattle.dg_meaning.specs.Values.{Num, leaf}
use Rattle.dg_meaning.specs.Unify.{Equations}
use Rattle.dg_unify.proofs.StoreLemmas.{holds_some}
use Rattle.dg_arena.specs.Held.{meaning_of}
use Rattle.dg_machine.specs.Refs.{Keeps}
use Rattle.dg_machine.proofs.Matching.{matched_in}
use Rattle.dg_machine.proofs.HeadLemmas.{keeps_on, follows_back}
use Rattle.dg_machine.proofs.memory.Memory.unify_number.Goals as goal

pub arg-into-requires : goal.arg-into-requires
arg-into-requires c = let some = c.requires in (some.0 ∷ some.1 ∷ some.2 ∷ [], some.3, omega arith)

pub join-requires-clause-a_in : goal.join-requires-clause-a_in
join-requires-clause-a_in c =
    let some = c.requires in
    let t = meaning_of c.simple_value-number.new.arena in
    holds_some t c.arg-into.result some.2 (c.simple_value-number.ensures.stays.keeps.kept.values c.arg-into.result some.2 (c.arg-into.ensures (some.0 ∷ some.1 ∷ some.2 ∷ []) some.3))

pub join-requires-clause-b_in : goal.join-requires-clause-b_in
join-requires-clause-b_in c = holds_some (meaning_of c.simple_value-number.new.arena) c.simple_value-number.result (leaf (Num c.args.n)) c.simple_value-number.ensures.value

pub returns-in-Err : goal.returns-in-Err
returns-in-Err c code l m u v w h refs =
    let r = c.args.self.now in
    let mid = c.simple_value-number.new.arena in
    let stays = c.simple_value-number.ensures.stays in
    let es : Equations = (w, leaf (Num c.args.n)) ∷ [] in
    let keeps : Keeps mid c.join.new.arena = c.in-Err.ensures.keeps in
    matched_in code l m r c.join.new.arena es h (keeps_on r.arena mid c.join.new.arena stays.keeps keeps) (Err c.in-Err.full)
    (follows_back r.arena mid c.join.new.arena w (leaf (Num c.args.n)) c.arg-into.result c.simple_value-number.result (Err c.in-Err.full) stays
    (stays.keeps.kept.values c.arg-into.result w (c.arg-into.ensures (u ∷ v ∷ w ∷ []) refs)) c.simple_value-number.ensures.value c.in-Err.ensures.unified)

pub returns-in-Ok : goal.returns-in-Ok
returns-in-Ok c code l m u v w h refs =
    let r = c.args.self.now in
    let mid = c.simple_value-number.new.arena in
    let stays = c.simple_value-number.ensures.stays in
    let es : Equations = (w, leaf (Num c.args.n)) ∷ [] in
    let keeps : Keeps mid c.join.new.arena = c.in-Ok.ensures.keeps in
    matched_in code l m r c.join.new.arena es h (keeps_on r.arena mid c.join.new.arena stays.keeps keeps) (Ok c.in-Ok.agreed)
    (follows_back r.arena mid c.join.new.arena w (leaf (Num c.args.n)) c.arg-into.result c.simple_value-number.result (Ok c.in-Ok.agreed) stays
    (stays.keeps.kept.values c.arg-into.result w (c.arg-into.ensures (u ∷ v ∷ w ∷ []) refs)) c.simple_value-number.ensures.value c.in-Ok.ensures.unified)
