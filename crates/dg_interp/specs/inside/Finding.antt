-- Where a run is that asks what is set in the world. Hold it against docs/LANGUAGE.md, "The world".
use Rattle.std.specs.Prelude.{ℕ, ◌+◌, List, Option, Bool, map, slice_get}
use Rattle.dg_meaning.specs.Changes.{found}
use Rattle.dg_meaning.specs.Facts.{Fact, kinds_of}
use Rattle.dg_meaning.specs.inside.Keeps.{After}
use Rattle.dg_meaning.specs.Moves.{outcome_of, numbers, object_branches, reads_if_set, finds_if_set, ask_objects, ask_place}
use Rattle.dg_meaning.specs.Path.{Step, Registers, Effect, Offers, Plain}
use Rattle.dg_meaning.specs.Transcript.{Run}
use Rattle.dg_meaning.specs.Values.{Value}
use Rattle.dg_meaning.specs.World.{Game, World}
use Rattle.dg_unify.specs.Store.{told}
use Rattle.dg_interp.specs.declared.engine.Engine.{Engine}
use Rattle.dg_choices.specs.declared.frames.Env.{Env}
use Rattle.dg_interp.specs.inside.Engine.{Point, There, store_in, steps_of}
use Rattle.dg_interp.specs.inside.Frames.{values_in}
use Rattle.dg_interp.specs.inside.Giving.{ActsAt}

-- The run comes from what a goal does, of which the terms are written, in front of where the engine is.
pub record EffectAt (effect : Game → List Step → Registers → World → Effect) (e : Engine) (g : Game) (n : ℕ) (w : World) (run : Run) : Type 0 where
  pub at : There e (e.newest + 1) g w
  pub came : After g at.inside.lives at.ways n (outcome_of (steps_of e) at.registers (effect g (steps_of e) at.registers w)) run

-- The values that were made last.
abbrev pub made_values : Engine → List Value
made_values e = map (told (store_in e.store)) e.made.items

-- The run comes from a query of a place with the values that were made last.
abbrev pub AsksPlaceAt : ℕ → Bool → Engine → Point
AsksPlaceAt place many e = EffectAt (λ g steps r w. ask_place g place (slice_get (kinds_of g.program) place) (made_values e) many steps r w) e

-- The run comes from a query of the objects at a place, or without one of all objects, with these values.
abbrev pub AsksObjectsAt : Option ℕ → Bool → Engine → Point
AsksObjectsAt place many e = EffectAt (λ g steps r w. ask_objects g place (made_values e) many steps r w) e

-- The run comes from a choice of all objects, which are tried with these values.
abbrev pub TriesObjectsAt : Option ℕ → Bool → Engine → Point
TriesObjectsAt place many e = EffectAt
    (λ g steps r w. Offers Plain (object_branches place (made_values e) many steps r (numbers 0 g.program.objects)) w) e

-- The run comes from something of what is set, read for these arguments.
abbrev pub ReadsAt : (List Fact → Option Value) → List Value → Engine → Point
ReadsAt fact args e = ActsAt (λ r w. reads_if_set args r (fact w.facts) w) e

-- The run comes from an object that is tried at a place, or without one, with the values of a stretch.
abbrev pub FindsAt : Option ℕ → ℕ → Env → Engine → Point
FindsAt place object args e = ActsAt
    (λ r w. finds_if_set (values_in (store_in e.store) e.refs.items args) object r (found w.facts place object) w) e
