-- What a look along a list shows of a variable.
use Rattle.std.specs.Prelude.{◌≡◌, ℕ, Option, Some, None, Bool, false, Result}
use Rattle.dg_meaning.specs.Values.{Label, Value, Values, Node}
use Rattle.dg_meaning.specs.Substitutions.{walk}
use Rattle.dg_meaning.specs.Unify.{Binds}
use Rattle.dg_unify.specs.Store.{Store}
use Rattle.dg_unify.specs.Slots.{Fields, store_of}
use Rattle.dg_unify.specs.inside.Ends.{subst_in, told_in, TellsOf}
use Rattle.dg_unify.specs.inside.Turns.{FollowsTurn}
use Rattle.dg_unify.specs.declared.bindings.Ref.{Ref}
use Rattle.dg_unify.specs.declared.bindings.Full.{Full}
use Rattle.dg_arena.specs.Joins.{IsAbsent}

-- A value is no variable.
pub record IsNode (v : Value) : Type 0 where
  pub label : Label
  pub parts : Values
  pub is : v ≡ Node label parts

-- A value has a tail, and a variable that doesn't stand in that doesn't stand in the value.
pub record IsClearTo (f : Fields) (at tail : Ref) (n : ℕ) : Type 0 where
  pub told : TellsOf f tail
  pub absent : IsAbsent f tail n → IsAbsent f at n

-- An unbound variable of this number was to be bound to an end in which it doesn't stand, and which is no variable.
pub record PointsTo (f : Fields) (new : Store) (n : ℕ) (to : Ref) (result : Result Bool Full) : Type 0 where
  pub node : IsNode (told_in f to)
  pub absent : IsAbsent f to n
  pub turn : FollowsTurn (store_of false f) new (Binds n (walk (subst_in f) (told_in f to))) result

-- That was done, or nothing.
abbrev pub Points : Fields → Store → ℕ → Ref → Option (Result Bool Full) → Type 0
Points f new n to None = new ≡ store_of false f
Points f new n to (Some result) = PointsTo f new n to result
