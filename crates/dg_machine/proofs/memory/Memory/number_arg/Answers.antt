use Rattle.std.proofs.Common.{◌∷◌, [], ◌∙◌, ap, arith}
use Rattle.dg_meaning.specs.Substitutions.{walk}
use Rattle.dg_unify.specs.Store.{State, told}
use Rattle.dg_unify.proofs.StoreLemmas.{holds_some, told_is}
use Rattle.dg_arena.specs.Held.{meaning_of}
use Rattle.dg_terms.specs.Throwing.{number_in}
use Rattle.dg_machine.proofs.memory.Memory.number_arg.Goals as goal

pub arg-a-requires : goal.arg-a-requires
arg-a-requires c = let some = c.requires in (some.0 ∷ [], some.1, omega arith)

pub walk-first-requires : goal.walk-first-requires
walk-first-requires c = let some = c.requires in holds_some (meaning_of c.args.self.now.arena) c.arg-a.result some.0 (c.arg-a.ensures (some.0 ∷ []) some.1)

pub returns : goal.returns
returns c code l m v h refs =
    let s = meaning_of c.args.self.now.arena in
    c.number_of.ensures s (walk s.state.subst (told s c.arg-a.result)) c.walk-first.ensures
    ∙ ap (λ x. number_in (walk s.state.subst x)) (told_is s c.arg-a.result v (c.arg-a.ensures (v ∷ []) refs)) ∙ ap (λ (t : State). number_in (walk t.subst v)) h.0.state_is
