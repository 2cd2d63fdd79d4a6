-- What is looked for in values. Hold it against dg_meaning/specs/Substitutions.antt.
use Rattle.std.specs.Prelude.{◌≡◌, ℕ, eqb, ◌||◌, Option, Some, None, Bool, true, false}
use Rattle.dg_meaning.specs.Values.{Value, Var, Node, Values, NoMore, More}
use Rattle.dg_meaning.specs.Substitutions.{resolved}
use Rattle.dg_unify.specs.Store.{Store, told}
use Rattle.dg_unify.specs.inside.Seen.{AreFree}
use Rattle.dg_unify.specs.declared.bindings.Ref.{Ref}
use Rattle.dg_unify.specs.declared.seen.Seen.{Seen}

-- A variable is the one that is looked for; without one, each is.
abbrev pub is_sought : Option ℕ → ℕ → Bool
is_sought None y = true
is_sought (Some x) y = eqb y x

-- What is looked for stands in a value.
abbrev mutual
  pub finds : Option ℕ → Value → Bool
  finds o (Var y) = is_sought o y
  finds o (Node f vs) = any_finds o vs

  pub any_finds : Option ℕ → Values → Bool
  any_finds o NoMore = false
  any_finds o (More v vs) = finds o v || any_finds o vs

-- An unbound variable is looked for by its Ref, or any.
abbrev pub IsSought : Store → Option Ref → Option ℕ → Type 0
IsSought s None None = Unit {0}
IsSought s (Some r) (Some n) = s.value r ≡ Some (Var n)
IsSought s x o = ⊥

-- The variable at a Ref is what is looked for.
abbrev pub ref_sought : Option Ref → Ref → Bool
ref_sought None y = true
ref_sought (Some x) y = eqb x.0 y.0

-- What is looked for stands in the value of a Ref.
abbrev pub finds_at : Store → Option ℕ → Ref → Bool
finds_at s o r = finds o (resolved s.state.subst (told s r))

-- It doesn't stand in any value that is noted.
abbrev pub AreClear : Store → Option ℕ → Seen → Type 0
AreClear s o seen = AreFree (finds_at s o) seen
