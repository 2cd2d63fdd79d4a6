-- What variables are bound to. Hold it against docs/LANGUAGE.md, where it says when two values unify, and the chapter of the Dialog manual on values.
use Rattle.std.specs.Prelude.{ℕ, suc, ◌+◌, eqb, List, [], ◌∷◌, ◌||◌, Bool, false, if◌then◌else◌}
use Rattle.dg_meaning.specs.Values.{Value, Var, Node, Values, NoMore, More}

-- Pairs of a variable and what it is bound to, the newest first.
abbrev pub Substitution : Type 0
Substitution = List (ℕ × Value)

-- ## Walking

-- The value u in place of the variable x, and every other value as it is.
abbrev pub at_var : ℕ → Value → Value → Value
at_var x u (Var y) = if eqb y x then u else Var y
at_var x u (Node f vs) = Node f vs

-- A value looked up until it is no bound variable: first in the older pairs, then in the newest.
abbrev pub walk : Substitution → Value → Value
walk [] v = v
walk (p ∷ S) v = at_var p.0 (walk S p.1) (walk S v)

-- One link and n further ones where the value is the variable x, else none.
abbrev pub links_at : ℕ → ℕ → Value → ℕ
links_at x n (Var y) = if eqb y x then suc n else 0
links_at x n (Node f vs) = 0

-- How many pairs the walk looks up.
abbrev pub links : Substitution → Value → ℕ
links [] v = 0
links (p ∷ S) v = links S v + links_at p.0 (links S p.1) (walk S v)

-- ## Resolving

-- A value with each variable x in it replaced by u.
abbrev mutual
  pub replaced : ℕ → Value → Value → Value
  replaced x u (Var y) = if eqb y x then u else Var y
  replaced x u (Node f vs) = Node f (all_replaced x u vs)

  pub all_replaced : ℕ → Value → Values → Values
  all_replaced x u NoMore = NoMore
  all_replaced x u (More v vs) = More (replaced x u v) (all_replaced x u vs)

-- A value with each bound variable in it, at every depth, replaced by what it is bound to.
abbrev pub resolved : Substitution → Value → Value
resolved [] v = v
resolved (p ∷ S) v = replaced p.0 (resolved S p.1) (resolved S v)

-- The variable x stands in a value.
abbrev mutual
  pub contains : ℕ → Value → Bool
  contains x (Var y) = eqb y x
  contains x (Node f vs) = any_contains x vs

  pub any_contains : ℕ → Values → Bool
  any_contains x NoMore = false
  any_contains x (More v vs) = contains x v || any_contains x vs
