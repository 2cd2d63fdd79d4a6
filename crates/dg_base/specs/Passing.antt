-- The first item at which a count passes its number, and what comes of it: hold it against docs/LANGUAGE.md, "Limits", and docs/REFUSALS.md, "too many".
use Rattle.std.specs.Prelude.{◌≡◌, ◌||◌, List, [], ◌∷◌, ◌++◌, Bool, Option, Some, None, Result, Ok, Err, if◌then◌else◌}
use Rattle.dg_base.specs.Tree.{Said, Item}
use Rattle.dg_base.specs.declared.refusal.Refusal.{Refusal}
use Rattle.dg_base.specs.declared.refusal.Kind.TheVariants.{TooMany}

-- The first of these items that is too large by itself, or with which all items up to it are too many.
abbrev pub first_passing : (Said → Bool) → (List Item → Bool) → List Item → List Item → Option Item
first_passing large many before [] = None
first_passing large many before (i ∷ is) = if large i.said || many (before ++ i ∷ []) then Some i else first_passing large many (before ++ i ∷ []) is

-- What is given where no item passes, or else the refusal at the first that does.
abbrev pub IsCounted : {A : Type 0} → Option Item → A → Result A Refusal → Type 0
IsCounted first new (Ok a) = (first ≡ None) × (a ≡ new)
IsCounted first new (Err r) = (i : Item) × (first ≡ Some i) × (r ≡ record { kind = TooMany; line = i.line })

-- ---- counted one by one: the proofs alone rest on it

-- The first item that passes, from what was counted on: an item is counted into what was counted before.
abbrev pub passing : {M : Type 0} → (Said → Bool) → (M → Said → M) → (M → Bool) → M → List Item → Option Item
passing large behind many m [] = None
passing large behind many m (i ∷ is) = if large i.said || many (behind m i.said) then Some i else passing large behind many (behind m i.said) is
