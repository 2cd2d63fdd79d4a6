use Rattle.std.proofs.Common.{◌∷◌, [], arith}
use Rattle.std.specs.Prelude.{Ok, Err}
use Rattle.dg_meaning.specs.Unify.{Equations}
use Rattle.dg_unify.proofs.StoreLemmas.{holds_some}
use Rattle.dg_arena.specs.Held.{meaning_of}
use Rattle.dg_machine.specs.Refs.{Keeps}
use Rattle.dg_machine.proofs.Matching.{matched_in}
use Rattle.dg_machine.proofs.HeadLemmas.{follows_told}
use Rattle.dg_machine.proofs.memory.Memory.unify_args.Goals as goal

pub arg-a-requires : goal.arg-a-requires
arg-a-requires c = let some = c.requires in (some.0 ∷ some.1 ∷ [], some.2, omega arith)

pub arg-b-requires : goal.arg-b-requires
arg-b-requires c = let some = c.requires in (some.0 ∷ some.1 ∷ [], some.2, omega arith)

pub join-requires-clause-a_in : goal.join-requires-clause-a_in
join-requires-clause-a_in c = let some = c.requires in holds_some (meaning_of c.args.self.now.arena) c.arg-a.result some.0 (c.arg-a.ensures (some.0 ∷ some.1 ∷ []) some.2)

pub join-requires-clause-b_in : goal.join-requires-clause-b_in
join-requires-clause-b_in c = let some = c.requires in holds_some (meaning_of c.args.self.now.arena) c.arg-b.result some.1 (c.arg-b.ensures (some.0 ∷ some.1 ∷ []) some.2)

pub returns-in-Err : goal.returns-in-Err
returns-in-Err c code l m u v h refs =
    let r = c.args.self.now in
    let es : Equations = (u, v) ∷ [] in
    let keeps : Keeps r.arena c.join.new.arena = c.in-Err.ensures.keeps in
    matched_in code l m r c.join.new.arena es h keeps (Err c.in-Err.full)
    (follows_told (meaning_of r.arena) (meaning_of c.join.new.arena) c.arg-a.result c.arg-b.result u v (Err c.in-Err.full) (c.arg-a.ensures (u ∷ v ∷ []) refs) (c.arg-b.ensures (u ∷ v ∷ []) refs) c.in-Err.ensures.unified)

pub returns-in-Ok : goal.returns-in-Ok
returns-in-Ok c code l m u v h refs =
    let r = c.args.self.now in
    let es : Equations = (u, v) ∷ [] in
    let keeps : Keeps r.arena c.join.new.arena = c.in-Ok.ensures.keeps in
    matched_in code l m r c.join.new.arena es h keeps (Ok c.in-Ok.agreed)
    (follows_told (meaning_of r.arena) (meaning_of c.join.new.arena) c.arg-a.result c.arg-b.result u v (Ok c.in-Ok.agreed) (c.arg-a.ensures (u ∷ v ∷ []) refs) (c.arg-b.ensures (u ∷ v ∷ []) refs) c.in-Ok.ensures.unified)
