-- What is known of values that were looked through. Hold it against dg_meaning/specs/Substitutions.antt.
use Rattle.std.specs.Prelude.{◌≡◌, ℕ, Option, Some, None, Bool, true, false, nat_eq}
use Rattle.std.specs.List.{All}
use Rattle.indexmap.specs.IndexSet.{contains}
use Rattle.dg_unify.specs.declared.bindings.Ref.{Ref}
use Rattle.dg_unify.specs.declared.seen.Seen.{Seen}

-- Nothing is found in this value, if there is one.
abbrev pub is_free : (Ref → Bool) → Option Ref → Type 0
is_free finds None = Unit {0}
is_free finds (Some at) = finds at ≡ false

-- Nothing is found in any value that is noted, at its place or beside.
pub record AreFree (finds : Ref → Bool) (seen : Seen) : Type 0 where
  pub placed : All (is_free finds) seen.refs
  pub beside : (n : ℕ) → contains nat_eq seen.beside n ≡ true → finds (record { 0 = n }) ≡ false
