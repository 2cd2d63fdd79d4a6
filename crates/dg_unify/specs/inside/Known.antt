-- What is known of pairs of values that were made equal. Hold it against dg_meaning/specs/Substitutions.antt.
use Rattle.std.specs.Prelude.{◌≡◌, ℕ, Option, Some, None, nat_eq}
use Rattle.std.specs.List.{All}
use Rattle.indexmap.specs.IndexMap.{get}
use Rattle.dg_meaning.specs.Substitutions.{resolved}
use Rattle.dg_unify.specs.Store.{Store, told, Holds}
use Rattle.dg_unify.specs.declared.bindings.Ref.{Ref}
use Rattle.dg_unify.specs.declared.known.Known.{Known}

-- Both values are there, and they are equal when they are resolved.
pub record IsEqual (s : Store) (a b : Ref) : Type 0 where
  pub a_in : Holds s a
  pub b_in : Holds s b
  pub same : resolved s.state.subst (told s a) ≡ resolved s.state.subst (told s b)

-- The values of this pair are equal, if there is one.
abbrev pub is_equal_pair : Store → Option (Ref × Ref) → Type 0
is_equal_pair s None = Unit {0}
is_equal_pair s (Some p) = IsEqual s p.0 p.1

-- The values of each pair are equal, and each value is equal to its next.
pub record AreEqual (s : Store) (known : Known) : Type 0 where
  pub pairs : All (is_equal_pair s) known.pairs
  pub nexts : (n : ℕ) (r : Ref) → get nat_eq known.nexts n ≡ Some r → IsEqual s (record { 0 = n }) r
