-- What is known while a tree is lowered. The proofs alone rest on it.
use Rattle.std.specs.Prelude.{◌≡◌, List, Bool, None, Some, Contains, map}
use Rattle.dg_base.specs.Tree.{Item}
use Rattle.dg_base.specs.declared.program.Place.{Place}
use Rattle.dg_base.specs.declared.refusal.Refusal.{Refusal}
use Rattle.dg_names.specs.Named.{Named}
use Rattle.dg_core.specs.Core.{entry_name}
use Rattle.dg_core.specs.Given.{IsGiven}
use Rattle.dg_core.specs.Places.{place_names}
use Rattle.dg_lower.specs.Lowered.{core_place, core_refusal, IsQuietSet}
use Rattle.dg_lower.specs.declared.places.Around.{Around}
use Rattle.dg_lower.specs.inside.View.{names_in, items_in, HasItsPlaces}

-- A tree with its places comes from a source, and the entry is among its names.
pub record IsGivenWith (around : Around) : Type 0 where
  pub places : HasItsPlaces around
  pub given : IsGiven (names_in around) (items_in around)
  pub entry : Contains (names_in around).preds entry_name

-- Nothing is refused, and the places start so.
pub record IsSettled (names : Named) (items : List Item) (started : List Place) : Type 0 where
  pub quiet : List Bool
  pub set : IsQuietSet names items quiet
  pub refusal : core_refusal names items quiet ≡ None
  pub places : started ≡ map (core_place names items) (place_names items)

-- This is refused.
pub record IsUnsettled (names : Named) (items : List Item) (r : Refusal) : Type 0 where
  pub quiet : List Bool
  pub set : IsQuietSet names items quiet
  pub refusal : core_refusal names items quiet ≡ Some r
