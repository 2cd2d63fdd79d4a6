use Rattle.std.proofs.Common.{◌∷◌, [], ◌∙◌, ap, subst, arith}
use Rattle.dg_meaning.specs.Numbers.{thrown, of_numbers}
use Rattle.dg_meaning.specs.Choosing.{die}
use Rattle.dg_terms.specs.Throwing.{Throws}
use Rattle.dg_meaning.specs.Substitutions.{walk}
use Rattle.dg_unify.specs.Store.{State, told}
use Rattle.dg_unify.proofs.StoreLemmas.{holds_some, told_is}
use Rattle.dg_arena.specs.Held.{meaning_of}
use Rattle.dg_machine.proofs.memory.Memory.throw_args.Goals as goal

pub arg-a-requires : goal.arg-a-requires
arg-a-requires c = let some = c.requires in (some.0 ∷ some.1 ∷ some.2 ∷ [], some.3, omega arith)

pub arg-b-requires : goal.arg-b-requires
arg-b-requires c = let some = c.requires in (some.0 ∷ some.1 ∷ some.2 ∷ [], some.3, omega arith)

pub throw-requires : goal.throw-requires
throw-requires c = let some = c.requires in (holds_some (meaning_of c.args.self.now.arena) c.arg-a.result some.0 (c.arg-a.ensures (some.0 ∷ some.1 ∷ some.2 ∷ []) some.3), holds_some (meaning_of c.args.self.now.arena) c.arg-b.result some.1 (c.arg-b.ensures (some.0 ∷ some.1 ∷ some.2 ∷ []) some.3))

pub returns-clause-thrown : goal.returns-clause-thrown
returns-clause-thrown c code l m u v w h refs words n drawn =
    let s = meaning_of c.args.self.now.arena in
    let b = walk s.state.subst (told s c.arg-b.result) in
    let f = of_numbers (thrown (die words n)) in
    subst (λ o. Throws o words n c.throw.result c.throw.new.dice)
    (ap (λ x. f (walk s.state.subst x) b) (told_is s c.arg-a.result u (c.arg-a.ensures (u ∷ v ∷ w ∷ []) refs))
    ∙ ap (λ x. f (walk s.state.subst u) (walk s.state.subst x)) (told_is s c.arg-b.result v (c.arg-b.ensures (u ∷ v ∷ w ∷ []) refs))
    ∙ ap (λ (t : State). f (walk t.subst u) (walk t.subst v)) h.0.state_is)
    (c.throw.ensures words n drawn)
