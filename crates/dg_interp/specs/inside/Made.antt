-- The values of a goal's terms, which were made last, and what a change of the world with them does. Hold it against docs/LANGUAGE.md, "The world".
use Rattle.std.specs.Prelude.{◌≡◌, ℕ, List, [], Option, Some, None, Bool, Result, length, map, slice_get}
use Rattle.dg_base.specs.declared.program.CoreProgram.{CoreProgram}
use Rattle.dg_base.specs.declared.program.PlaceKind.{PlaceKind}
use Rattle.dg_base.specs.declared.program.Term.{Term}
use Rattle.dg_meaning.specs.Cells.{cells}
use Rattle.dg_meaning.specs.Changes.{change_of}
use Rattle.dg_meaning.specs.Facts.{Fact, Alteration, kinds_of}
use Rattle.dg_meaning.specs.Values.{Value, value_of}
use Rattle.dg_unify.specs.Store.{Saved, Kept}
use Rattle.dg_world.specs.Tables.{Outline}
use Rattle.dg_world.specs.Worlds.{StandsFor}
use Rattle.dg_world.specs.declared.change.KeepFull.{KeepFull}
use Rattle.dg_interp.specs.declared.engine.Engine.{Engine}
use Rattle.dg_lasting.specs.Changing.{all_in_store, Became}
use Rattle.dg_interp.specs.inside.Frames.{values_in}
use Rattle.dg_interp.specs.inside.Engine.{store_in, KeepsPlaces}
use Rattle.dg_terms.specs.Terms.{Written}

-- The values of terms were made, and nothing else.
pub record MadeArgs (terms : List Term) (old new : Engine) : Type 0 where
  pub same : new ≡ record old { store = new.store; made = new.made }
  pub kept : Kept (store_in old.store) (store_in new.store)
  pub saved : (ms : List Saved) → KeepsPlaces old.store ms → KeepsPlaces new.store ms
  pub written : (program : CoreProgram) → old.program.now ≡ program → Written (cells program terms)
      (map (value_of program (values_in (store_in old.store) old.refs.items old.here.env)) terms)
      (store_in old.store) (store_in new.store) [] new.made.items

-- What a change comes to at a place of a kind, if there is one.
abbrev pub changes_at : ℕ → ℕ → Bool → List Value → Option PlaceKind → Option Alteration
changes_at objects place sets values None = None
changes_at objects place sets values (Some kind) = change_of objects kind place sets values

-- A place was changed with the values that were made last, and nothing else.
pub record ChangedMade (place : ℕ) (sets : Bool) (result : Result Bool KeepFull) (old new : Engine) : Type 0 where
  pub same : new ≡ record old { store = new.store; lasting = record old.lasting { world = new.lasting.world; row = new.lasting.row } }
  pub store : store_in new.store ≡ store_in old.store
  pub saved : (ms : List Saved) → KeepsPlaces old.store ms → KeepsPlaces new.store ms
  pub row : length new.lasting.row.items ≡ length old.lasting.row.items
  pub limit : new.lasting.world.area.keep ≡ old.lasting.world.area.keep
  pub became : (o : Outline) → (facts : List Fact) → StandsFor old.lasting.world o facts → o.kinds ≡ kinds_of old.program.now →
      o.objects ≡ length old.program.now.objects → length old.lasting.row.items ≡ o.keep →
      Became o facts (changes_at (length old.program.now.objects) place sets (all_in_store (store_in old.store) old.made.items) (slice_get o.kinds place))
      old.lasting.world new.lasting.world result
