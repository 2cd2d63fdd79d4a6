-- What a store keeps true can hold in one way only.
use Rattle.std.specs.Prelude.{◌≡◌, ℕ, List, [], ◌∷◌, Option, None, Some}
use Rattle.std.proofs.Props.{props}
use Rattle.std.specs.Coded.{×_prop, Unit-prop}
use Rattle.dg_meaning.specs.Values.{Value}
use Rattle.dg_meaning.specs.Substitutions.{Substitution}
use Rattle.dg_meaning.specs.inside.Substitutions.{FitsFront, IsSubstitution}
use Rattle.dg_unify.specs.Store.{IsTold}
use Rattle.dg_unify.specs.Links.{Once, Lists, AreLinked}
use Rattle.dg_unify.specs.Slots.{value_in, AreTold, IsFew, Fits, Fields, AreSound}
use Rattle.dg_unify.specs.Fences.{AreClosed, IsFenced}
use Rattle.dg_unify.specs.declared.bindings.Ref.{Ref}
use Rattle.dg_unify.specs.declared.slots.Slot.{Slot}
use Rattle.dg_unify.specs.declared.slots.Slot.TheVariants as slot
use Rattle.dg_unify.specs.declared.slots.Link.{Link}
use Rattle.dg_unify.specs.declared.fence.Fence.{Fence}

front_prop : (x : ℕ) (v : Value) (S : Substitution) → IsProp (FitsFront x v S)
front_prop x v S = hlevel props

substitution_prop : (S : Substitution) → IsProp (IsSubstitution S)
substitution_prop [] = Unit-prop
substitution_prop (p ∷ S) = ×_prop (front_prop p.0 p.1 S) (substitution_prop S)

told_prop : (o : Option Value) → IsProp (IsTold o)
told_prop None = hlevel props
told_prop (Some v) = Unit-prop

are_told_prop : (slots : List Slot) (ls : List Link) → IsProp (AreTold slots ls)
are_told_prop slots [] = Unit-prop
are_told_prop slots (l ∷ ls) = ×_prop (told_prop (value_in slots l.to.0)) (are_told_prop slots ls)

none_prop : (a b : Option Ref) → IsProp (a ≡ b)
none_prop a b = hlevel props

some_prop : (a b : Option (Option Ref)) → IsProp (a ≡ b)
some_prop a b = hlevel props

once_prop : (n : ℕ) (ls : List Link) → IsProp (Once n ls)
once_prop n [] = Unit-prop
once_prop n (l ∷ ls) = hlevel (props, once_prop n ls, none_prop)

lists_prop : (to : List (Option Ref)) (ls : List Link) → IsProp (Lists to ls)
lists_prop to ls = hlevel (props, some_prop)

pub are_linked_prop : (vars : ℕ) (to : List (Option Ref)) (log : List Link) → IsProp (AreLinked vars to log)
are_linked_prop vars to log = hlevel (props, once_prop, lists_prop)

few_prop : (x : Slot) → IsProp (IsFew x)
few_prop (slot.Var n) = Unit-prop
few_prop (slot.Pair h t k) = Unit-prop
few_prop (slot.Closure place n) = hlevel props
few_prop (slot.Captured r) = Unit-prop
few_prop (slot.Unknown n) = hlevel props
few_prop (slot.Letter c) = Unit-prop

fits_prop : (slots : List Slot) (ls : List Link) (n : ℕ) → IsProp (Fits slots ls n)
fits_prop slots ls n = hlevel (props, substitution_prop, are_told_prop, once_prop, few_prop, told_prop)

pub are_sound_prop : (f : Fields) → IsProp (AreSound f)
are_sound_prop f = hlevel (props, fits_prop)

closed_prop : (n : ℕ) (S : Substitution) → IsProp (AreClosed n S)
closed_prop n [] = Unit-prop
closed_prop n (p ∷ S) = hlevel (props, closed_prop n S)

pub is_fenced_prop : (slots : List Slot) (ls : List Link) (vars : ℕ) (fence : Fence) → IsProp (IsFenced slots ls vars fence)
is_fenced_prop slots ls vars fence = hlevel (props, closed_prop)
