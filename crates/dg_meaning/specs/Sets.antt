-- Sets of predicates, as an answer for each.
use Rattle.std.specs.Prelude.{◌≡◌, ℕ, List, Bool, true, false, Some, slice_get, slice_index_or}
use Rattle.dg_base.specs.declared.program.Pred.{Pred}

-- A predicate is in a set.
abbrev pub is_in_set : List Bool → ℕ → Bool
is_in_set set p = slice_index_or set p false

-- Each predicate of a set is in another.
abbrev pub IsSubset : List Pred → List Bool → List Bool → Type 0
IsSubset preds inner outer = (p : ℕ) → (pred : Pred) → slice_get preds p ≡ Some pred → is_in_set inner p ≡ true → is_in_set outer p ≡ true
