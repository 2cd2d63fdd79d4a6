use Rattle.std.proofs.Common.{◌∷◌, [], arith}
use Rattle.std.specs.Prelude.{Ok, Err}
use Rattle.dg_meaning.specs.Unify.{Equations}
use Rattle.dg_unify.proofs.StoreLemmas.{holds_some}
use Rattle.dg_arena.specs.Held.{meaning_of}
use Rattle.dg_machine.specs.Refs.{Keeps}
use Rattle.dg_machine.proofs.Matching.{matched_in}
use Rattle.dg_machine.proofs.HeadLemmas.{follows_told}
use Rattle.dg_machine.proofs.memory.Memory.unify_first.Goals as goal

pub arg-argument-requires : goal.arg-argument-requires
arg-argument-requires c = let some = c.requires.args in (some.0 ∷ some.1, some.2, omega arith)

pub unify-requires-clause-a_in : goal.unify-requires-clause-a_in
unify-requires-clause-a_in c = let some = c.requires.args in holds_some (meaning_of c.args.self.now.arena) c.arg-argument.result some.0 (c.arg-argument.ensures (some.0 ∷ some.1) some.2)

pub returns-in-Err : goal.returns-in-Err
returns-in-Err c code l m u v us h refs made =
    let r = c.args.self.now in
    let s = meaning_of r.arena in
    let es : Equations = (u, v) ∷ [] in
    let keeps : Keeps r.arena c.unify.new.store = record { kept = c.in-Err.ensures.kept; saved = c.in-Err.ensures.saved } in
    matched_in code l m r c.unify.new.store es h keeps (Err c.in-Err.full)
    (follows_told s (meaning_of c.unify.new.store) c.arg-argument.result c.args.made u v (Err c.in-Err.full) (c.arg-argument.ensures (u ∷ us) refs) made c.in-Err.ensures.unified)

pub returns-in-Ok : goal.returns-in-Ok
returns-in-Ok c code l m u v us h refs made =
    let r = c.args.self.now in
    let s = meaning_of r.arena in
    let es : Equations = (u, v) ∷ [] in
    let keeps : Keeps r.arena c.unify.new.store = record { kept = c.in-Ok.ensures.kept; saved = c.in-Ok.ensures.saved } in
    matched_in code l m r c.unify.new.store es h keeps (Ok c.in-Ok.agreed)
    (follows_told s (meaning_of c.unify.new.store) c.arg-argument.result c.args.made u v (Ok c.in-Ok.agreed) (c.arg-argument.ensures (u ∷ us) refs) made c.in-Ok.ensures.unified)
