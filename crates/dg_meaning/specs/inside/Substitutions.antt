-- Which lists of pairs are substitutions, and how they grow. Hold it against docs/LANGUAGE.md, where it says when two values unify.
use Rattle.std.specs.Prelude.{◌≡◌, ℕ, eqb, [], ◌∷◌, ◌++◌, ◌||◌, Bool, false}
use Rattle.dg_meaning.specs.Values.{Value, Values, NoMore, More}
use Rattle.dg_meaning.specs.Substitutions.{Substitution, resolved, contains}

-- The variable x is bound.
abbrev pub is_bound : ℕ → Substitution → Bool
is_bound x [] = false
is_bound x (p ∷ S) = eqb x p.0 || is_bound x S

-- The same for each of some values.
abbrev pub all_resolved : Substitution → Values → Values
all_resolved S NoMore = NoMore
all_resolved S (More v vs) = More (resolved S v) (all_resolved S vs)

-- A pair may stand in front: its variable isn't bound, and its value, resolved, doesn't contain the variable.
pub record FitsFront (x : ℕ) (v : Value) (S : Substitution) : Type 0 where
  pub unbound : is_bound x S ≡ false
  pub absent : contains x (resolved S v) ≡ false

-- Each pair fits in front of the older ones.
abbrev pub IsSubstitution : Substitution → Type 0
IsSubstitution [] = Unit {0}
IsSubstitution (p ∷ S) = FitsFront p.0 p.1 S × IsSubstitution S

-- A substitution has grown at its front, and is one still.
pub record Extends (S S' : Substitution) : Type 0 where
  pub made : Substitution
  pub is : S' ≡ made ++ S
  pub sound : IsSubstitution S'
