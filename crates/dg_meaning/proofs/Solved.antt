-- Unification by its turns.
use Rattle.std.proofs.Common.{◌≡◌, ℕ, zero, suc, [], ◌∷◌, ◌++◌, Option, Some, None, refl, sym, ap, ◌∙◌, subst}
use Rattle.dg_meaning.specs.Values.{Value}
use Rattle.dg_meaning.specs.Substitutions.{Substitution}
use Rattle.dg_meaning.specs.inside.Substitutions.{IsSubstitution}
use Rattle.dg_meaning.specs.Unify.{Equations, Turn, Goes, Binds, Clashes, turn, cost, Unified, agreed, clashed, counted, charged, after_turn, turns, enough, solve}
use Rattle.dg_meaning.specs.inside.Solved.{Solves, done, goes, binds, clash, IsSolved}
use Rattle.dg_meaning.proofs.Solving.{solve_ends, solve_is}

-- ## What ends in some turns

some_same : {A : Type 0} (a b : A) → Some a ≡ Some b → a ≡ b
some_same a b e = cc

-- what was counted, taken apart
uncharged : (c : ℕ) (r : Option Unified) (u : Unified) → charged c r ≡ Some u → (v : Unified) × (r ≡ Some v) × (counted c v ≡ u)
uncharged c None u e = absurd (cc)
uncharged c (Some v) u e = (v, refl, some_same (counted c v) u e)

-- what these turns come to is solved so
abbrev AllSolve : ℕ → Type 0
AllSolve n = (S : Substitution) (es : Equations) (u : Unified) → turns n S es ≡ Some u → Solves S es u

turn_solves : (n : ℕ) → AllSolve n → (S : Substitution) (a b : Value) (es : Equations) (v : Unified) (t : Turn) → turn S a b ≡ t → after_turn (turns n) S es t ≡ Some v → Solves S ((a, b) ∷ es) (counted (cost S a b) v)
turn_solves n all S a b es v (Goes parts) is e = goes is (all S (parts ++ es) v e)
turn_solves n all S a b es v (Binds x w) is e = binds is (all ((x, w) ∷ S) es v e)
turn_solves n all S a b es v Clashes is e = subst (λ k. Solves S ((a, b) ∷ es) (counted (cost S a b) k)) (some_same (clashed S) v e) (clash is)

turns_solve : (n : ℕ) → AllSolve n
turns_solve zero S es u e = absurd (cc)
turns_solve (suc n) S [] u e = subst (Solves S []) (some_same (agreed S) u e) done
turns_solve (suc n) S (p ∷ es) u e =
    let x = uncharged (cost S p.0 p.1) (after_turn (turns n) S es (turn S p.0 p.1)) u e in
    subst (Solves S (p ∷ es)) x.2 (turn_solves n (turns_solve n) S p.0 p.1 es x.0 (turn S p.0 p.1) refl x.1)

-- what is solved so ends in some turns
solves_turns : (S : Substitution) (es : Equations) (u : Unified) → Solves S es u → (n : ℕ) × (turns n S es ≡ Some u)
solves_turns S [] u done = (1, refl)
solves_turns S (p ∷ es) u (goes {parts = parts} {u = v} is h) =
    let k = solves_turns S (parts ++ es) v h in
    (suc k.0, ap (λ t. charged (cost S p.0 p.1) (after_turn (turns k.0) S es t)) is ∙ ap (charged (cost S p.0 p.1)) k.1)
solves_turns S (p ∷ es) u (binds {v = w} {x = x} {u = v} is h) =
    let k = solves_turns ((x, w) ∷ S) es v h in
    (suc k.0, ap (λ t. charged (cost S p.0 p.1) (after_turn (turns k.0) S es t)) is ∙ ap (charged (cost S p.0 p.1)) k.1)
solves_turns S (p ∷ es) u (clash is) = (1, ap (λ t. charged (cost S p.0 p.1) (after_turn (turns 0) S es t)) is)

pub solved : (S : Substitution) (es : Equations) → IsSubstitution S → IsSolved S es
solved S es sound = record {
  solves = turns_solve (enough S es) S es (solve S es) (solve_ends S es sound);
  alone = λ u h. let k = solves_turns S es u h in sym (solve_is k.0 S es u sound k.1);
}
