-- Which variables can't stand in which values. Hold it against dg_meaning/specs/Substitutions.antt.
use Rattle.std.specs.Prelude.{◌≡◌, ℕ, ◌-◌, ◌<◌, ◌≤◌, max, nat_lt, nat_le, eqb, List, [], ◌∷◌, ◌||◌, ◌&&◌, Some, Bool, if◌then◌else◌, length}
use Rattle.dg_meaning.specs.Values.{Value}
use Rattle.dg_meaning.specs.Substitutions.{Substitution}
use Rattle.dg_meaning.specs.Unify.{top}
use Rattle.dg_unify.specs.Slots.{value_in, subst_of}
use Rattle.dg_unify.specs.declared.bindings.Ref.{Ref}
use Rattle.dg_unify.specs.declared.slots.Slot.{Slot}
use Rattle.dg_unify.specs.declared.slots.Link.{Link}
use Rattle.dg_unify.specs.declared.fence.Fence.{Fence}

-- What each variable below n is bound to has only variables below n.
abbrev pub AreClosed : ℕ → Substitution → Type 0
AreClosed n [] = Unit {0}
AreClosed n (p ∷ S) = (p.0 < n → top p.1 ≤ n) × AreClosed n S

-- A number above each variable of what is bound.
abbrev pub top_of_bound : Substitution → ℕ
top_of_bound [] = 0
top_of_bound (p ∷ S) = max (top p.1) (top_of_bound S)

-- The slots and variables before the fence are there; the values of these slots have only such variables, and so has what such a variable is bound
-- to. What any variable is bound to has only variables below the reach.
pub record IsFenced (slots : List Slot) (ls : List Link) (vars : ℕ) (fence : Fence) : Type 0 where
  pub slots_in : fence.slots ≤ length slots
  pub vars_in : fence.vars ≤ vars
  pub values : (r : ℕ) (v : Value) → r < fence.slots → value_in slots r ≡ Some v → top v ≤ fence.vars
  pub closed : AreClosed fence.vars (subst_of slots ls)
  pub further : fence.vars ≤ fence.reach
  pub within : top_of_bound (subst_of slots ls) ≤ fence.reach

-- A value of a slot stands before the fence, and a variable behind it.
abbrev pub stands_between : Fence → Ref → ℕ → Bool
stands_between fence at n = nat_lt at.0 fence.slots && nat_le fence.vars n

-- Where the fence stands when one more variable is made: it stays while all slots behind it are new variables.
abbrev pub fence_for_new : Fence → Fence → Fence
fence_for_new fence now = if eqb (now.slots - fence.slots) (now.vars - fence.vars) then fence else now

-- Where it stands when the variable n is bound to a value with variables below t: where the variable was before it and the value isn't, more
-- variables come before it.
abbrev pub fence_for_link : Fence → ℕ → ℕ → Fence → Fence
fence_for_link fence n t now =
    if nat_le fence.vars n || nat_le t fence.vars then record fence { reach = max fence.reach t }
    else (if nat_lt (max fence.reach t) now.vars then record { slots = fence.slots; vars = max fence.reach t; reach = max fence.reach t } else now)
