-- What a run of a whole program has and promises. Hold it against the README.
use Rattle.std.specs.Prelude.{ℕ, ◌≡◌, ◌+◌, ◌<◌, List, Option}
use Rattle.dg_base.specs.declared.program.CoreProgram.{CoreProgram}
use Rattle.dg_base.specs.declared.run.Ending.TheVariants.{StepLimit}
use Rattle.dg_base.specs.declared.run.Limits.{Limits}
use Rattle.dg_base.specs.declared.run.Outcome.{Outcome}
use Rattle.dg_base.specs.Causes.{Rose}
use Rattle.dg_base.specs.Streams.{SourceView}
use Rattle.dg_base.specs.Written.{SinkView, BrokeOff}
use Rattle.dg_meaning.specs.World.{Game}
use Rattle.dg_meaning.specs.Transcript.{run, text_of}
use Rattle.dg_meaning.specs.Shows.{LeftBetween, MayBegin, Shows, ShowsInputFault}
use Rattle.dg_meaning.specs.Engines.{left_told}
use Rattle.dg_lasting.specs.Resting.{Rests}
use Rattle.dg_lasting.specs.declared.resting.Resting.{Resting}
use Rattle.dg_mid.specs.Codes.{Codes}
use Rattle.dg_mid.specs.Potential.{Tidy}
use Rattle.dg_mid.specs.declared.code.Code.{Code}
use Rattle.dg_machine.specs.Built.{IsBuilt}
use Rattle.dg_machine.specs.Tables.{IsOf}
use Rattle.dg_machine.specs.declared.tables.Tables.{Tables}

-- Code, tables and what lasts are those of a program, and the code is code that a machine runs.
pub record IsReady (program : CoreProgram) (limits : Limits) (code : Code) (tables : Tables) (resting : Option Resting) : Type 0 where
  pub built : IsBuilt code
  pub tidy : Tidy code
  pub codes : Codes program code
  pub tabled : IsOf program tables
  pub rests : Rests program limits resting

-- Nothing was read, and nothing was written.
pub record IsUntouched (i i' : SourceView) (k k' : SinkView) : Type 0 where
  pub source : i' ≡ i
  pub sink : k' ≡ k

-- What a run that may begin prints up to the goal behind so many, which don't end it. Of the input no less is left than that goal leaves, and no more
-- than those before it.
pub record ShowsGoal (g : Game) (typed : List ℕ) (limits : Limits) (bytes : List ℕ) (left : Option (List ℕ)) : Type 0 where
  pub begins : MayBegin g limits
  pub goals : ℕ
  pub below : goals < limits.steps
  pub goes_on : (run g typed goals).ending ≡ StepLimit
  pub text : bytes ≡ text_of (run g typed (goals + 1)).world.events
  pub input : LeftBetween g typed goals (goals + 1) left

-- A text that a run may be writing that took its memory first: what it prints up to a goal; what shows it; or, where the input's count rose, what is
-- written where the input failed.
pub data MayWriteText (g : Game) (typed : List ℕ) (limits : Limits) (i i' : SourceView) (bytes : List ℕ) : Type 0 where
  up_to_goal : ShowsGoal g typed limits bytes (left_told i i') → MayWriteText g typed limits i i' bytes
  to_the_end : (outcome : Outcome) → Shows g typed limits bytes outcome (left_told i i') → MayWriteText g typed limits i i' bytes
  up_to_fault : Rose i.faults i'.faults → ShowsInputFault g typed limits bytes (left_told i i') → MayWriteText g typed limits i i' bytes

-- The sink failed within such a text: its count rose, it took a front of that text, and the text is longer than a room that it told.
pub record HasLostText (g : Game) (typed : List ℕ) (limits : Limits) (i i' : SourceView) (k k' : SinkView) : Type 0 where
  pub bytes : List ℕ
  pub writing : MayWriteText g typed limits i i' bytes
  pub broke : BrokeOff k k' bytes
