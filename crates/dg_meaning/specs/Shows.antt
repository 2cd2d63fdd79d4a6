-- What an interpreter may write. Hold it against the Dialog manual, chapter "Output", and "Beyond the program" on limits.
use Rattle.std.specs.Prelude.{ℕ, ◌+◌, ◌-◌, ◌≡◌, ◌<◌, ◌≤◌, ◌⊎◌, List, [], length, Option, Some, None}
use Rattle.dg_base.specs.declared.run.Ending.TheVariants.{InputEnded, StepLimit}
use Rattle.dg_base.specs.declared.run.Limits.{Limits}
use Rattle.dg_base.specs.declared.run.Outcome.{Outcome}
use Rattle.dg_meaning.specs.Facts.{kinds_of, kept_size, start_facts}
use Rattle.dg_meaning.specs.World.{Game, Event}
use Rattle.dg_meaning.specs.Transcript.{run, text_of, closed, line_of, no_memory_line, input_fault_line}
use Rattle.dg_base.specs.Begins.{Begins, EndsWith}
use Rattle.dg_meaning.specs.Peaks.{Area, peak, limit_of, limit_ending, IsWithin}

-- ## In which form

-- A form in which a run is written: what has happened, and where it is over the line that closes it.
abbrev pub Form : Type 0
Form = List Event → Option (List ℕ) → List ℕ

-- The plain form: the text of what was printed, and its closing.
abbrev pub plain : Form
plain events None = text_of events
plain events (Some line) = closed events line

-- ## Runs and limits

-- What starts set is no more than may be kept. Else the limit is met before the first goal.
abbrev pub MayBegin : Game → Limits → Type 0
MayBegin g limits = kept_size (kinds_of g.program) (start_facts g.program.places) ≤ limits.keep

-- The bytes that an input has left, where it tells them.
abbrev pub IsLeft : Option (List ℕ) → List ℕ → Type 0
IsLeft None typed = Unit {0}
IsLeft (Some left) typed = left ≡ typed

-- The whole run under the step limit, closed with its ending's line, that ending and the goals it took; the input has left what the run leaves.
pub record ShowsRunBy (form : Form) (g : Game) (typed : List ℕ) (limits : Limits) (bytes : List ℕ) (outcome : Outcome)
    (left : Option (List ℕ)) : Type 0 where
  pub begins : MayBegin g limits
  pub text : bytes ≡ form (run g typed limits.steps).world.events (Some (line_of (run g typed limits.steps).ending))
  pub ending : outcome.ending ≡ (run g typed limits.steps).ending
  pub goals : outcome.goals + (run g typed limits.steps).left ≡ limits.steps
  pub left_is : IsLeft left (run g typed limits.steps).world.typed

-- What an input has left lies between what two runs leave: the run with the smaller budget leaves it or more, and the one with the larger no more.
pub record LeftBetween (g : Game) (typed : List ℕ) (few many : ℕ) (left : Option (List ℕ)) : Type 0 where
  pub rest : List ℕ
  pub left_is : IsLeft left rest
  pub since : EndsWith (run g typed few).world.typed rest
  pub until : EndsWith rest (run g typed many).world.typed

-- A limit was met while a goal was done, or before the first: the run up to that goal passes the limit, and what has happened before is closed with
-- the limit's line. Of the input no less is left than that goal leaves, and no more than those before it.
pub record ShowsLimitBy (form : Form) (g : Game) (typed : List ℕ) (limits : Limits) (bytes : List ℕ) (outcome : Outcome)
    (left : Option (List ℕ)) : Type 0 where
  pub begins : 0 < outcome.goals → MayBegin g limits
  pub area : Area
  pub ending : outcome.ending ≡ limit_ending area
  pub goals : outcome.goals ≤ limits.steps
  pub passed : limit_of area limits < peak area g typed outcome.goals
  pub part : List Event
  pub text : bytes ≡ form part (Some (line_of outcome.ending))
  pub until : Begins part (run g typed outcome.goals).world.events
  pub since : Begins (run g typed (outcome.goals - 1)).world.events part
  pub none_before_the_first : outcome.goals ≡ 0 → part ≡ []
  pub input : LeftBetween g typed (outcome.goals - 1) outcome.goals left
  pub covers : (m : ℕ) → m ≤ limits.steps → IsWithin limits g typed m → Begins (run g typed m).world.events part

-- These bytes and this outcome show the game on these typed bytes within the limits.
abbrev pub ShowsBy : Form → Game → List ℕ → Limits → List ℕ → Outcome → Option (List ℕ) → Type 0
ShowsBy form g typed limits bytes outcome left = ShowsRunBy form g typed limits bytes outcome left ⊎ ShowsLimitBy form g typed limits bytes outcome left

-- ## Where the run was broken off

-- What has happened up to some moment of the run, closed with the line on want of memory; of the input the run takes what was taken.
pub record ShowsNoMemoryBy (form : Form) (g : Game) (typed : List ℕ) (limits : Limits) (bytes : List ℕ) (left : Option (List ℕ)) : Type 0 where
  pub part : List Event
  pub text : bytes ≡ form part (Some no_memory_line)
  pub until : Begins part (run g typed limits.steps).world.events
  pub input : LeftBetween g typed 0 limits.steps left

-- How many typed bytes the run with a budget of m goals takes.
abbrev pub taken_by : Game → List ℕ → ℕ → ℕ
taken_by g typed m = length typed - length (run g typed m).world.typed

-- How many of these bytes an input has given, where it tells what it has left; of one that doesn't tell, any number fits.
abbrev pub HasGiven : List ℕ → Option (List ℕ) → ℕ → Type 0
HasGiven typed None t = Unit {0}
HasGiven typed (Some left) t = t + length left ≡ length typed

-- The input failed at the goal behind the first m ones: what has happened in these, closed with the line on input faults. Of t bytes that the input
-- gave, they took no more, and that goal takes them or finds no byte.
pub record ShowsInputFaultBy (form : Form) (g : Game) (typed : List ℕ) (limits : Limits) (bytes : List ℕ) (left : Option (List ℕ)) : Type 0 where
  pub goals : ℕ
  pub below : goals < limits.steps
  pub text : bytes ≡ form (run g typed goals).world.events (Some input_fault_line)
  pub given : ℕ
  pub is_given : HasGiven typed left given
  pub goes_on : (run g typed goals).ending ≡ StepLimit
  pub no_more : taken_by g typed goals ≤ given
  pub reads : ((run g typed (goals + 1)).ending ≡ InputEnded) ⊎ ((given ≤ taken_by g typed (goals + 1)) ×
      (taken_by g typed goals < taken_by g typed (goals + 1)))

-- What happens in the run up to a goal. Of the input no less is left than that goal leaves, and no more than those before it.
pub record ShowsPartBy (form : Form) (g : Game) (typed : List ℕ) (limits : Limits) (bytes : List ℕ) (left : Option (List ℕ)) : Type 0 where
  pub goals : ℕ
  pub within : goals ≤ limits.steps
  pub text : bytes ≡ form (run g typed goals).world.events None
  pub input : LeftBetween g typed (goals - 1) goals left

-- What a run may be writing whose input has left this: what happens up to a goal, what shows it, or what is written where it was broken off.
pub data MayWriteBy (form : Form) (g : Game) (typed : List ℕ) (limits : Limits) (bytes : List ℕ) (left : Option (List ℕ)) : Type 0 where
  in_part : ShowsPartBy form g typed limits bytes left → MayWriteBy form g typed limits bytes left
  whole : (outcome : Outcome) → ShowsBy form g typed limits bytes outcome left → MayWriteBy form g typed limits bytes left
  without_memory : ShowsNoMemoryBy form g typed limits bytes left → MayWriteBy form g typed limits bytes left
  without_input : ShowsInputFaultBy form g typed limits bytes left → MayWriteBy form g typed limits bytes left

-- ## In the plain form

abbrev pub ShowsRun : Game → List ℕ → Limits → List ℕ → Outcome → Option (List ℕ) → Type 0
ShowsRun = ShowsRunBy plain

abbrev pub ShowsLimit : Game → List ℕ → Limits → List ℕ → Outcome → Option (List ℕ) → Type 0
ShowsLimit = ShowsLimitBy plain

abbrev pub Shows : Game → List ℕ → Limits → List ℕ → Outcome → Option (List ℕ) → Type 0
Shows = ShowsBy plain

abbrev pub ShowsNoMemory : Game → List ℕ → Limits → List ℕ → Option (List ℕ) → Type 0
ShowsNoMemory = ShowsNoMemoryBy plain

abbrev pub ShowsInputFault : Game → List ℕ → Limits → List ℕ → Option (List ℕ) → Type 0
ShowsInputFault = ShowsInputFaultBy plain

abbrev pub ShowsPart : Game → List ℕ → Limits → List ℕ → Option (List ℕ) → Type 0
ShowsPart = ShowsPartBy plain

abbrev pub MayWrite : Game → List ℕ → Limits → List ℕ → Option (List ℕ) → Type 0
MayWrite = MayWriteBy plain
