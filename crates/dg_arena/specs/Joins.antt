-- When a variable and a value are joined at once. Hold it against dg_unify/specs/Ends.antt.
use Rattle.std.specs.Prelude.{◌≡◌, ℕ, ◌<◌, Option, Some, None, Bool, false, Result}
use Rattle.dg_meaning.specs.Values.{Var}
use Rattle.dg_meaning.specs.Substitutions.{resolved, contains}
use Rattle.dg_meaning.specs.inside.Unify.{unify}
use Rattle.dg_unify.specs.Store.{Store, told, Follows}
use Rattle.dg_unify.specs.Slots.{value_in, Fields}
use Rattle.dg_unify.specs.inside.Ends.{subst_in, told_in, IsEnd}
use Rattle.dg_unify.specs.declared.bindings.Ref.{Ref}
use Rattle.dg_unify.specs.declared.bindings.Full.{Full}

-- An unbound variable of this number stands here.
pub record IsFree (f : Fields) (at : Ref) (n : ℕ) : Type 0 where
  pub value : value_in f.slots at.0 ≡ Some (Var n)
  pub end_is : IsEnd f at
  pub within : n < f.vars

-- A variable of this number doesn't stand in a value.
abbrev pub IsAbsent : Fields → Ref → ℕ → Type 0
IsAbsent f at n = contains n (resolved (subst_in f) (told_in f at)) ≡ false

-- A variable of this number doesn't stand in an end, and has the greater Ref where that is a variable.
pub record IsBefore (f : Fields) (end var : Ref) (n : ℕ) : Type 0 where
  pub absent : IsAbsent f end n
  pub older : (m : ℕ) → told_in f end ≡ Var m → end.0 < var.0

-- A value and a variable were unified, or nothing was done.
abbrev pub Joins : Store → Store → Ref → Ref → Option (Result Bool Full) → Type 0
Joins old new to var None = new ≡ old
Joins old new to var (Some result) = Follows old new (unify old.state.subst (told old to) (told old var)) result
