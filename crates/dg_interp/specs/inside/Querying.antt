-- Where a run is whose goal asks a value. Hold it against docs/LANGUAGE.md, where it says what a closure is.
use Rattle.std.specs.Prelude.{ℕ, ◌+◌, Bool, true, false, map}
use Rattle.dg_meaning.specs.inside.Keeps.{After}
use Rattle.dg_meaning.specs.Moves.{ask_closure, outcome_of}
use Rattle.dg_meaning.specs.Substitutions.{walk}
use Rattle.dg_meaning.specs.Transcript.{Run}
use Rattle.dg_meaning.specs.World.{Game, World}
use Rattle.dg_unify.specs.Store.{told}
use Rattle.dg_unify.specs.declared.bindings.Ref.{Ref}
use Rattle.dg_choices.specs.declared.frames.Mark.{Mark}
use Rattle.dg_choices.specs.declared.frames.Mark.TheVariants.{Nothing, CutTo}
use Rattle.dg_interp.specs.declared.engine.Engine.{Engine}
use Rattle.dg_interp.specs.inside.Engine.{There, store_in, steps_of}

-- The run comes from a query of the value at a Ref, with the arguments that were made last, in front of where the engine is.
pub record QueriesAt (value : Ref) (many : Bool) (e : Engine) (g : Game) (n : ℕ) (w : World) (run : Run) : Type 0 where
  pub at : There e (e.newest + 1) g w
  pub queried : After g at.inside.lives at.ways n (outcome_of (steps_of e) at.registers
      (ask_closure g (walk at.registers.bound (told (store_in e.store) value)) (map (told (store_in e.store)) e.made.items) many (steps_of e)
      at.registers w)) run

-- What is done behind a body: only its first answer counts, unless many are asked for.
abbrev pub mark_of : Bool → ℕ → Mark
mark_of true tag = Nothing
mark_of false tag = CutTo tag
