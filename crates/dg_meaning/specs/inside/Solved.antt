-- Unification by its turns, with no bound on their number. Hold it against docs/LANGUAGE.md, where it says when two values unify.
use Rattle.std.specs.Prelude.{◌≡◌, ℕ, [], ◌∷◌, ◌++◌}
use Rattle.dg_meaning.specs.Values.{Value}
use Rattle.dg_meaning.specs.Substitutions.{Substitution}
use Rattle.dg_meaning.specs.Unify.{Equations, Goes, Binds, Clashes, turn, cost, Unified, agreed, clashed, counted, solve}

-- What comes of equations in order: nothing is left to be done, or the first one counts, and then its parts come before the others, or what it binds
-- stands in front of the substitution for the others, or it clashes, and what was bound before is bound.
pub data Solves : Substitution → Equations → Unified → Type 0 where
  done : {S : Substitution} → Solves S [] (agreed S)
  goes : {S : Substitution} {a b : Value} {parts es : Equations} {u : Unified} → turn S a b ≡ Goes parts → Solves S (parts ++ es) u →
      Solves S ((a, b) ∷ es) (counted (cost S a b) u)
  binds : {S : Substitution} {a b v : Value} {x : ℕ} {es : Equations} {u : Unified} → turn S a b ≡ Binds x v → Solves ((x, v) ∷ S) es u →
      Solves S ((a, b) ∷ es) (counted (cost S a b) u)
  clash : {S : Substitution} {a b : Value} {es : Equations} → turn S a b ≡ Clashes → Solves S ((a, b) ∷ es) (counted (cost S a b) (clashed S))

-- Unification is this and nothing else: whether it agrees, the substitution and the count, at a clash too.
pub record IsSolved (S : Substitution) (es : Equations) : Type 0 where
  pub solves : Solves S es (solve S es)
  pub alone : (u : Unified) → Solves S es u → u ≡ solve S es
