use Rattle.std.proofs.Common.{◌∷◌, ◌∙◌, [], ap, get_or, Some}
use Rattle.std.specs.Prelude.{Ok, Err}
use Rattle.dg_meaning.specs.Values.{Nil, leaf}
use Rattle.dg_meaning.specs.Unify.{Equations}
use Rattle.dg_world.specs.Tables.{simple_value}
use Rattle.dg_unify.proofs.StoreLemmas.{holds_some}
use Rattle.dg_arena.specs.Held.{meaning_of}
use Rattle.dg_machine.specs.Refs.{Keeps}
use Rattle.dg_machine.proofs.Matching.{matched_in}
use Rattle.dg_machine.proofs.HeadLemmas.{keeps_on, follows_back}
use Rattle.dg_machine.proofs.Trying.{simple_is}
use Rattle.dg_machine.proofs.memory.Memory.unify_simple.Goals as goal

pub unify-requires-clause-a_in : goal.unify-requires-clause-a_in
unify-requires-clause-a_in c =
    let some = c.requires in
    let v = get_or some.0 c.args.at (leaf Nil) in
    holds_some (meaning_of c.simple_value-made.new.arena) c.arg-argument.result v (c.simple_value-made.ensures.stays.keeps.kept.values c.arg-argument.result v (c.arg-argument.ensures some.0 some.1))

pub unify-requires-clause-b_in : goal.unify-requires-clause-b_in
unify-requires-clause-b_in c = holds_some (meaning_of c.simple_value-made.new.arena) c.simple_value-made.result _ c.simple_value-made.ensures.value

pub returns-in-Err : goal.returns-in-Err
returns-in-Err c code l m vs h refs =
    let r = c.args.self.now in
    let mid = c.simple_value-made.new.arena in
    let stays = c.simple_value-made.ensures.stays in
    let u = get_or vs c.args.at (leaf Nil) in
    let v = simple_value c.args.value in
    let es : Equations = (u, v) ∷ [] in
    let keeps : Keeps mid c.unify.new.store = record { kept = c.in-Err.ensures.kept; saved = c.in-Err.ensures.saved } in
    matched_in code l m r c.unify.new.store es h (keeps_on r.arena mid c.unify.new.store stays.keeps keeps) (Err c.in-Err.full)
    (follows_back r.arena mid c.unify.new.store u v c.arg-argument.result c.simple_value-made.result (Err c.in-Err.full) stays
    (stays.keeps.kept.values c.arg-argument.result u (c.arg-argument.ensures vs refs)) (c.simple_value-made.ensures.value ∙ ap Some (simple_is c.args.value)) c.in-Err.ensures.unified)

pub returns-in-Ok : goal.returns-in-Ok
returns-in-Ok c code l m vs h refs =
    let r = c.args.self.now in
    let mid = c.simple_value-made.new.arena in
    let stays = c.simple_value-made.ensures.stays in
    let u = get_or vs c.args.at (leaf Nil) in
    let v = simple_value c.args.value in
    let es : Equations = (u, v) ∷ [] in
    let keeps : Keeps mid c.unify.new.store = record { kept = c.in-Ok.ensures.kept; saved = c.in-Ok.ensures.saved } in
    matched_in code l m r c.unify.new.store es h (keeps_on r.arena mid c.unify.new.store stays.keeps keeps) (Ok c.in-Ok.agreed)
    (follows_back r.arena mid c.unify.new.store u v c.arg-argument.result c.simple_value-made.result (Ok c.in-Ok.agreed) stays
    (stays.keeps.kept.values c.arg-argument.result u (c.arg-argument.ensures vs refs)) (c.simple_value-made.ensures.value ∙ ap Some (simple_is c.args.value)) c.in-Ok.ensures.unified)
