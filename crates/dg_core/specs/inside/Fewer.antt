-- A program whose predicates have lost rules, and whose places start otherwise. The proofs alone rest on it.
use Rattle.std.specs.Prelude.{◌≡◌, ◌≤◌, ◌⊎◌, ℕ, List, [], ◌∷◌, length, slice_get}
use Rattle.std.specs.List.{All}
use Rattle.dg_base.specs.Sound.{FitsPlace, IsPlaceOf, FirstIsParent}
use Rattle.dg_base.specs.declared.program.CoreProgram.{CoreProgram as Core}
use Rattle.dg_base.specs.declared.program.Place.{Place}
use Rattle.dg_base.specs.declared.program.Pred.{Pred}

-- A predicate has all rules of another of its name, or none.
pub record HasLost (p q : Pred) : Type 0 where
  pub name : q.name ≡ p.name
  pub rules : (q.rules ≡ p.rules) ⊎ (q.rules ≡ [])

-- One predicate after the other.
abbrev pub HaveLost : List Pred → List Pred → Type 0
HaveLost [] [] = Unit {0}
HaveLost [] (q ∷ qs) = ⊥
HaveLost (p ∷ ps) [] = ⊥
HaveLost (p ∷ ps) (q ∷ qs) = HasLost p q × HaveLost ps qs

-- The program with these predicates and places.
abbrev pub with_parts : Core → List Pred → List Place → Core
with_parts p preds places = record p { preds = preds; places = places }

-- What fits a place fits the one of these at its number, and they start soundly.
pub record Replace (p : Core) (preds : List Pred) (places : List Place) : Type 0 where
  pub fit : (k args : ℕ) → FitsPlace args (slice_get p.places k) → FitsPlace args (slice_get places k)
  pub sound : All (IsPlaceOf (with_parts p preds places)) places
  pub parent : FirstIsParent places
  pub few : length places ≤ 65535
