-- What a run is to those whom it was shown to: entries that show it, in whatever form they are written. Hold it against the Dialog manual on debugging.
use Rattle.std.specs.Prelude.{ℕ, List, ◌++◌, Option}
use Rattle.std.specs.List.{flat_map}
use Rattle.dg_base.specs.declared.run.Limits.{Limits}
use Rattle.dg_base.specs.declared.run.Outcome.{Outcome}
use Rattle.dg_base.specs.declared.run.RunFault.{RunFault}
use Rattle.dg_base.specs.declared.run.RunFault.TheVariants.{Read, Write, OutOfMemory}
use Rattle.dg_base.specs.Streams.{SourceView}
use Rattle.dg_meaning.specs.World.{Game}
use Rattle.dg_meaning.specs.Render.{nothing_met}
use Rattle.dg_meaning.specs.Trace.{Entry, entries, closing_entries}
use Rattle.dg_meaning.specs.Shows.{Form, ShowsBy, ShowsInputFaultBy, ShowsNoMemoryBy, MayWriteBy}
use Rattle.dg_meaning.specs.Engines.{left_told}
use Rattle.dg_watch.specs.Told.{all_told}
use Rattle.dg_watch.specs.Watching.{Watching, Given, Lost}

-- The form in which each entry of a run is written so, one behind the other.
abbrev pub in_form : (Entry → List ℕ) → Form
in_form write events line = flat_map write (entries nothing_met events ++ closing_entries events line)

-- Some entries show the game with this outcome, and all of them were told.
pub record HasSeen {W : Type 0} (v : Watching W) (g : Game) (typed : List ℕ) (limits : Limits) (outcome : Outcome) (left : Option (List ℕ))
    (old new : W) : Type 0 where
  pub seen : List Entry
  pub shows : (write : Entry → List ℕ) → ShowsBy (in_form write) g typed limits (flat_map write seen) outcome left
  pub given : Given v old new (all_told seen)

-- The input failed, and the entries up to there with the closing were told.
pub record HasSeenInput {W : Type 0} (v : Watching W) (g : Game) (typed : List ℕ) (limits : Limits) (left : Option (List ℕ))
    (old new : W) : Type 0 where
  pub seen : List Entry
  pub shows : (write : Entry → List ℕ) → ShowsInputFaultBy (in_form write) g typed limits (flat_map write seen) left
  pub given : Given v old new (all_told seen)

-- Memory ran out, and the entries up to there with the closing were told.
pub record HasSeenMemory {W : Type 0} (v : Watching W) (g : Game) (typed : List ℕ) (limits : Limits) (left : Option (List ℕ))
    (old new : W) : Type 0 where
  pub seen : List Entry
  pub shows : (write : Entry → List ℕ) → ShowsNoMemoryBy (in_form write) g typed limits (flat_map write seen) left
  pub given : Given v old new (all_told seen)

-- It failed while it was told some entries that a run may be telling.
pub record HasSeenPart {W : Type 0} (v : Watching W) (g : Game) (typed : List ℕ) (limits : Limits) (left : Option (List ℕ))
    (old new : W) : Type 0 where
  pub seen : List Entry
  pub may_write : (write : Entry → List ℕ) → MayWriteBy (in_form write) g typed limits (flat_map write seen) left
  pub lost : Lost v old new (all_told seen)

-- What stands after each fault, of a source and of what the run was shown to.
abbrev pub HasSeenFault : {W : Type 0} → Watching W → RunFault → Game → List ℕ → Limits → SourceView → SourceView → W → W → Type 0
HasSeenFault v Read g typed limits i i' old new = HasSeenInput v g typed limits i'.left old new
HasSeenFault v Write g typed limits i i' old new = HasSeenPart v g typed limits (left_told i i') old new
HasSeenFault v OutOfMemory g typed limits i i' old new = HasSeenMemory v g typed limits i'.left old new
