-- When a story agrees with its program: what its runs may write, and when they have to have written it. Hold it against the Dialog manual, chapter
-- "Output", and "Beyond the program" on limits.
use Rattle.std.specs.Prelude.{◌≡◌, ℕ, ◌+◌, ◌*◌, ◌<◌, ◌≤◌, ◌⊎◌, List}
use Rattle.dg_base.specs.declared.run.Ending.{Ending}
use Rattle.dg_base.specs.declared.run.Ending.TheVariants as endings
use Rattle.dg_base.specs.declared.run.Limits.{Limits}
use Rattle.dg_base.specs.declared.program.CoreProgram.{CoreProgram}
use Rattle.dg_meaning.specs.World.{Game, Event}
use Rattle.dg_meaning.specs.Transcript.{run, text_of, transcript, closed, line_of}
use Rattle.dg_base.specs.Begins.{Begins}
use Rattle.dg_meaning.specs.Peaks.{Area, peak, limit_of, limit_ending, IsWithin}
use Rattle.z_model.specs.declared.end.ZEnd.{ZEnd}
use Rattle.z_model.specs.declared.end.ZEnd.TheVariants as ends
use Rattle.z_model.specs.Story.{story_run}

-- a story's limits; it has no limit of goals
abbrev pub story_limits : Limits
story_limits = record { steps = 0; heap = 10000; trail = 2000; aux = 2000; keep = 500 }

-- The run ended of its own.
abbrev pub IsDone : Ending → Type 0
IsDone endings.Done = Unit {0}
IsDone endings.Quit = Unit {0}
IsDone endings.Failed = Unit {0}
IsDone endings.Stopped = Unit {0}
IsDone endings.InputEnded = ⊥
IsDone endings.StepLimit = ⊥
IsDone endings.HeapLimit = ⊥
IsDone endings.TrailLimit = ⊥
IsDone endings.AuxLimit = ⊥
IsDone endings.KeepLimit = ⊥

-- what a run with a budget of n goals prints before its closing
abbrev pub printed_body : Game → List ℕ → ℕ → List ℕ
printed_body g typed n = text_of (run g typed n).world.events

-- The run passes an area's limit with so many goals: what was printed until then, closed with the limit's line, with all that runs within the limits print.
pub record IsLimitText (g : Game) (typed : List ℕ) (area : Area) (bytes : List ℕ) : Type 0 where
  pub goals : ℕ
  pub passed : limit_of area story_limits < peak area g typed goals
  pub part : List Event
  pub until : Begins part (run g typed goals).world.events
  pub text : bytes ≡ closed part (line_of (limit_ending area))
  pub covers : (n : ℕ) → IsWithin story_limits g typed n → Begins (printed_body g typed n) (text_of part)

-- A front of what some run writes: of its body, of its whole transcript where it ended of its own, or of a limit text.
pub data IsCut (g : Game) (typed : List ℕ) (bytes : List ℕ) : Type 0 where
  of_body : (m : ℕ) → Begins bytes (printed_body g typed m) → IsCut g typed bytes
  of_transcript : (m : ℕ) → IsDone (run g typed m).ending → Begins bytes (transcript g typed m) → IsCut g typed bytes
  of_limit : (area : Area) → (text : List ℕ) → IsLimitText g typed area text → Begins bytes text → IsCut g typed bytes

-- What a run of the story that is over has written.
pub data EndsWhole (g : Game) (typed : List ℕ) : ZEnd → List ℕ → Type 0 where
  by_done : {bytes : List ℕ} (m : ℕ) → IsDone (run g typed m).ending → bytes ≡ transcript g typed m → EndsWhole g typed ends.Quit bytes
  by_input : {bytes : List ℕ} (m : ℕ) → (run g typed m).ending ≡ endings.InputEnded → bytes ≡ printed_body g typed m →
      EndsWhole g typed ends.InputEnded bytes
  by_limit : {bytes : List ℕ} (area : Area) → IsLimitText g typed area bytes → EndsWhole g typed ends.Quit bytes

-- as many instructions as suffice for the work of n goals
abbrev pub enough_for : Game → List ℕ → ℕ → ℕ
enough_for g typed n = 20000 * (run g typed n).world.meters.work + 200000

-- All that n goals show is written, with their ending where they end.
pub record IsThere (g : Game) (typed : List ℕ) (n : ℕ) (bytes : List ℕ) (end : ZEnd) : Type 0 where
  pub printed : Begins (printed_body g typed n) bytes
  pub input : (run g typed n).ending ≡ endings.InputEnded → (bytes ≡ printed_body g typed n) × (end ≡ ends.InputEnded)
  pub done : IsDone (run g typed n).ending → (bytes ≡ transcript g typed n) × (end ≡ ends.Quit)

-- A limit was met that n goals pass.
pub record IsAtLimit (g : Game) (typed : List ℕ) (n : ℕ) (bytes : List ℕ) (end : ZEnd) : Type 0 where
  pub area : Area
  pub passed : limit_of area story_limits < peak area g typed n
  pub text : IsLimitText g typed area bytes
  pub quit : end ≡ ends.Quit

-- What a story writes within some number of instructions fits its program.
pub record Fits (g : Game) (typed : List ℕ) (steps : ℕ) (bytes : List ℕ) (end : ZEnd) : Type 0 where
  pub shown : ((end ≡ ends.StepLimit) × IsCut g typed bytes) ⊎ EndsWhole g typed end bytes
  pub enough : (n : ℕ) → enough_for g typed n ≤ steps → IsThere g typed n bytes end ⊎ IsAtLimit g typed n bytes end

-- A story agrees with a program: whatever is typed and drawn, and however many instructions are done, what it writes fits.
abbrev pub Agrees : List ℕ → CoreProgram → Type 0
Agrees story program = (typed dice : List ℕ) (steps : ℕ) →
    let r = story_run story typed dice steps in Fits (record { program = program; dice = dice }) typed steps r.state.output r.end
