-- What values of a store some parts are. Hold it against dg_meaning/specs/Values.antt.
use Rattle.std.specs.Prelude.{◌≡◌, ℕ, zero, suc, Option, Some, None}
use Rattle.dg_meaning.specs.Values.{Label, Value, Var, Node, Values, NoMore, More}
use Rattle.dg_meaning.specs.Substitutions.{walk}
use Rattle.dg_unify.specs.Store.{Store, told, Holds, IsClosureAt}
use Rattle.dg_unify.specs.Finds.{finds_at}
use Rattle.dg_unify.specs.declared.bindings.Ref.{Ref}
use Rattle.dg_unify.specs.declared.bindings.View.{View}
use Rattle.dg_unify.specs.declared.bindings.View.TheVariants as view
use Rattle.dg_unify.specs.declared.parts.Parts.{Parts}
use Rattle.dg_unify.specs.declared.parts.Parts.TheVariants as parts
use Rattle.dg_unify.specs.declared.parts.Front.{Front}
use Rattle.dg_unify.specs.declared.parts.Look.{Look}
use Rattle.dg_unify.specs.declared.parts.Look.TheVariants as looks

-- The parts of a value; a variable has none.
abbrev pub parts_in : Value → Values
parts_in (Var n) = NoMore
parts_in (Node f vs) = vs

-- The values from a number on.
abbrev pub dropped : ℕ → Values → Values
dropped zero vs = vs
dropped (suc n) NoMore = NoMore
dropped (suc n) (More v vs) = dropped n vs

-- The values that parts are.
abbrev pub values_of : Store → Parts → Values
values_of s parts.Nothing = NoMore
values_of s (parts.One r) = More (told s r) NoMore
values_of s (parts.Two q r) = More (told s q) (More (told s r) NoMore)
values_of s (parts.Captured c n) = dropped n (parts_in (told s c))

-- A closure stands there.
pub record IsClosure (s : Store) (c : Ref) : Type 0 where
  pub place : ℕ
  pub parts : Values
  pub at : IsClosureAt s c place parts

-- They are in the store.
abbrev pub AreIn : Store → Parts → Type 0
AreIn s parts.Nothing = Unit {0}
AreIn s (parts.One r) = Holds s r
AreIn s (parts.Two q r) = Holds s q × Holds s r
AreIn s (parts.Captured c n) = IsClosure s c

-- The captured values from a number on.
pub record IsRest (s : Store) (c : Ref) (n : ℕ) (rest : Parts) : Type 0 where
  pub are_in : AreIn s rest
  pub values : values_of s rest ≡ dropped n (parts_in (told s c))

-- The first and the others.
pub record IsSplit (s : Store) (p : Parts) (front : Front) : Type 0 where
  pub values : values_of s p ≡ More (told s front.first) (values_of s front.rest)
  pub first_in : Holds s front.first
  pub rest_in : AreIn s front.rest

-- What a split of some parts comes to.
abbrev pub SplitsInto : Store → Parts → Option Front → Type 0
SplitsInto s p None = values_of s p ≡ NoMore
SplitsInto s p (Some front) = IsSplit s p front

-- The parts of a value that is shown.
pub record ShowsInner (s : Store) (vs : Values) (inner : Parts) : Type 0 where
  pub are_in : AreIn s inner
  pub values : values_of s inner ≡ vs

-- The unbound variable that is shown, where one is.
abbrev pub IsVariable : View → Option Ref → Type 0
IsVariable (view.Unbound r) var = var ≡ Some r
IsVariable other var = var ≡ None

-- A walked value is no variable, and its parts are left to look at.
pub record IsOpened (s : Store) (at : Ref) (inner : Parts) : Type 0 where
  pub label : Label
  pub parts : Values
  pub is : walk s.state.subst (told s at) ≡ Node label parts
  pub shows : ShowsInner s parts inner

-- What a look for a variable tells of a value.
abbrev pub LooksInto : Store → Option ℕ → Ref → Look → Type 0
LooksInto s o at (looks.Ends found) = found ≡ finds_at s o at
LooksInto s o at (looks.Goes inner) = IsOpened s at inner
