use Rattle.std.proofs.Common.{◌∷◌, []}
use Rattle.std.specs.Prelude.{Ok, Err}
use Rattle.dg_meaning.specs.Unify.{Equations}
use Rattle.dg_arena.specs.Held.{meaning_of}
use Rattle.dg_machine.specs.Refs.{Keeps}
use Rattle.dg_machine.proofs.Matching.{matched_in}
use Rattle.dg_machine.proofs.HeadLemmas.{follows_told}
use Rattle.dg_machine.proofs.memory.Memory.meet.Goals as goal

pub returns-in-Err-clause-met : goal.returns-in-Err-clause-met
returns-in-Err-clause-met c code l m u v h a b =
    let r = c.args.self.now in
    let es : Equations = (u, v) ∷ [] in
    let keeps : Keeps r.arena c.unify.new.store = record { kept = c.in-Err.ensures.kept; saved = c.in-Err.ensures.saved } in
    matched_in code l m r c.unify.new.store es h keeps (Err c.in-Err.full) (follows_told (meaning_of r.arena) (meaning_of c.unify.new.store) c.args.a c.args.b u v (Err c.in-Err.full) a b c.in-Err.ensures.unified)

pub returns-in-Ok-clause-met : goal.returns-in-Ok-clause-met
returns-in-Ok-clause-met c code l m u v h a b =
    let r = c.args.self.now in
    let es : Equations = (u, v) ∷ [] in
    let keeps : Keeps r.arena c.unify.new.store = record { kept = c.in-Ok.ensures.kept; saved = c.in-Ok.ensures.saved } in
    matched_in code l m r c.unify.new.store es h keeps (Ok c.in-Ok.agreed) (follows_told (meaning_of r.arena) (meaning_of c.unify.new.store) c.args.a c.args.b u v (Ok c.in-Ok.agreed) a b c.in-Ok.ensures.unified)
