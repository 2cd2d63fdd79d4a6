-- The predicates that are single: the greatest set whose rules fit it. Hold it against docs/LANGUAGE.md, "Search", on queries and (just).
use Rattle.std.specs.Prelude.{◌≡◌, ℕ, List, Bool, true, slice_get, length, Some}
use Rattle.dg_base.specs.declared.program.Pred.{Pred}
use Rattle.dg_meaning.specs.Sets.{is_in_set, IsSubset}
use Rattle.dg_single.specs.Plain.{rules_fit}

-- The rules of each predicate of a set fit the set.
abbrev pub IsClosed : List Pred → List Bool → Type 0
IsClosed preds set = (p : ℕ) → (pred : Pred) → slice_get preds p ≡ Some pred → is_in_set set p ≡ true → rules_fit set pred.rules ≡ true

-- It has each such set of predicates within it.
abbrev pub HasAll : List Pred → List Bool → Type 0
HasAll preds outer = (set : List Bool) → length set ≡ length preds → IsClosed preds set → IsSubset preds set outer

-- The greatest such set, with an answer for each predicate.
pub record AreSingles (preds : List Pred) (set : List Bool) : Type 0 where
  pub answers : length set ≡ length preds
  pub closed : IsClosed preds set
  pub greatest : HasAll preds set
