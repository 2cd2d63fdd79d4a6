-- What the program promises of a call, command by command: hold it against the table of statuses in man/dialog.1. From it alone follows which status
-- comes where.
use Rattle.std.specs.Prelude.{◌≡◌, ◌<◌, ◌≤◌, ℕ, List, [], length, map, Option, Some, None, Bool, IsTrue, IsSome, Ok, Err}
use Rattle.dg_base.specs.Causes.{Rose}
use Rattle.dg_base.specs.Shelves.{WhereTold, KeepsAll, KeepsOthers}
use Rattle.dg_base.specs.Written.{Wrote}
use Rattle.dg_base.specs.declared.program.CoreProgram.{CoreProgram as Core}
use Rattle.dg_base.specs.declared.refusal.Refusal.{Refusal}
use Rattle.dg_base.specs.declared.run.Ending.{Ending}
use Rattle.dg_base.specs.declared.run.Ending.TheVariants.{Done, Quit, Failed, Stopped, InputEnded, StepLimit, HeapLimit, TrailLimit, AuxLimit, KeepLimit}
use Rattle.dg_base.specs.declared.run.Limits.{Limits}
use Rattle.dg_base.specs.declared.run.Outcome.{Outcome}
use Rattle.dg_base.specs.declared.run.RunFault.{RunFault}
use Rattle.dg_base.specs.declared.run.RunFault.TheVariants.{Read, Write, OutOfMemory}
use Rattle.dg_make.specs.Made.{made_source}
use Rattle.dg_meaning.specs.Shows.{IsLeft, Shows}
use Rattle.dg_meaning.specs.Transcript.{no_memory_line, input_fault_line}
use Rattle.dg_meaning.specs.World.{Game}
use Rattle.dg_meaning.specs.Engines.{game, left_told}
use Rattle.dg_single.specs.Singles.{AreSingles}
use Rattle.dg_trace.specs.Traced.{HasTraced, HasTracedFault}
use Rattle.dg_chain.specs.Agrees.{Agrees}
use Rattle.dg_story.specs.Marks.{rule_names, mark_name}
use Rattle.dg_story.specs.Refusals as build
use Rattle.dg_story.specs.declared.refusal.BuildRefusal.{BuildRefusal}
use Rattle.z_list.specs.declared.mark.Mark.{Mark}
use Rattle.z_list.specs.Listing.{AreMarks}
use Rattle.z_list.specs.Reads.{IsListing, IsBadAt}
use Rattle.z_list.specs.Texts.{listed}
use Rattle.z_model.specs.Closing.{played_text}
use Rattle.z_model.specs.Run.{ZRun}
use Rattle.z_model.specs.Story.{story_refusal, story_run}
use Rattle.z_model.specs.declared.end.ZEnd.{ZEnd}
use Rattle.z_model.specs.declared.end.ZEnd.TheVariants as ends
use Rattle.z_model.specs.declared.story.StoryRefusal.{StoryRefusal}
use Rattle.z_play.specs.Output.{BrokeBehind}
use Rattle.dialog_tool.specs.Command.{Command, debug, play, run, build, singles, make, list, join, trace, Task, limits_of}
use Rattle.dialog_tool.specs.Call.{Call, Outside, Finds, file_at, dice_for}
use Rattle.dialog_tool.specs.Lines.{Says, usage_line, refusal_line, story_line, build_line, listing_line, file_fault_line}
use Rattle.dialog_tool.specs.Making.{made_limits, most_output, made_report, too_long_line}
use Rattle.dialog_tool.specs.Report.{report}
use Rattle.dialog_tool.specs.Running.{Run, run_of_game, run_of_story, LosesInput, IsWriting}
use Rattle.dg_compile.specs.Source.{Compiles}

-- ---- statuses

-- the status of an ending
abbrev pub status_of : Ending → ℕ
status_of Done = 0
status_of Quit = 0
status_of Failed = 0
status_of Stopped = 0
status_of InputEnded = 0
status_of StepLimit = 3
status_of HeapLimit = 3
status_of TrailLimit = 3
status_of AuxLimit = 3
status_of KeepLimit = 3

-- the status of the end of a story's run
abbrev pub status_of_end : ZEnd → ℕ
status_of_end ends.Quit = 0
status_of_end ends.InputEnded = 0
status_of_end ends.StepLimit = 3
status_of_end (ends.Broken fault at) = 4

-- ---- what is printed at once

-- Out took this text, and the result is this status, or out failed within it, and the result is 5; the input is as it was.
pub record Prints (c : Call) (status : ℕ) (text : List ℕ) (result : ℕ) : Type 0 where
  pub says : Says status text c.out c.out_after result
  pub input_stays : c.input_after ≡ c.input

-- The shelf keeps what it holds.
abbrev pub Keeps : Call → Type 0
Keeps c = KeepsAll c.shelf.contents c.shelf_after.contents

-- The shelf failed at the file of this name; one that is sure fails only where it has no such file.
pub record LostFile (c : Call) (name : List ℕ) : Type 0 where
  pub rose : Rose c.shelf.faults c.shelf_after.faults
  pub missing : IsTrue c.shelf.sure → WhereTold c.shelf.contents (λ contents. IsSome (contents name) → ⊥)

-- ---- runs

-- The input has these bytes left, where it told its bytes, as far as it tells them.
abbrev pub Leaves : Call → List ℕ → Type 0
Leaves c rest = IsSome c.input.left → IsLeft c.input_after.left rest

-- What a run of at most so many steps comes to that ends so, with a status, a text and typed bytes left: out took that text; or, at 5, the input failed,
-- and out took what was printed before with the line that says so; or, at 5, out failed within a text, behind what was surely written of it.
pub data Runs (c : Call) (r : Run) (most : ℕ) (Ends : ℕ → List ℕ → List ℕ → Type 0) (result : ℕ) : Type 0 where
  ran : (text rest : List ℕ) → Ends result text rest → Wrote c.out c.out_after text → Leaves c rest → Runs c r most Ends result
  input_lost : result ≡ 5 → Rose c.input.faults c.input_after.faults → (n : ℕ) (rest : List ℕ) → LosesInput r most n rest
      → Wrote c.out c.out_after (r.closed n input_fault_line) → Leaves c rest → Runs c r most Ends result
  out_lost : result ≡ 5 → Rose c.out.faults c.out_after.faults → (status : ℕ) (written text rest : List ℕ)
      → IsWriting r most (Ends status) (Rose c.input.faults c.input_after.faults) written text rest
      → BrokeBehind c.out c.out_after written text → Leaves c rest → Runs c r most Ends result

-- ---- sources

-- A source is read: its file is lost, at 5, or it is refused, at 1, or it is a program with which this is done.
pub data Reads (c : Call) (o : Outside) (name : List ℕ) (Does : Core → Type 0) (result : ℕ) : Type 0 where
  lost : LostFile c name → Prints c 5 (file_fault_line name) result → Reads c o name Does result
  refused : (r : Refusal) → Compiles (file_at o name) (Err r) → Prints c 1 (refusal_line name r) result → Reads c o name Does result
  program : (p : Core) → Compiles (file_at o name) (Ok p) → Does p → Reads c o name Does result

-- How a program's run ends within the limits: at the status of its ending, with a text that shows it.
abbrev pub EndsProgram : Game → List ℕ → Limits → ℕ → List ℕ → List ℕ → Type 0
EndsProgram g typed limits status text rest = (outcome : Outcome) × (status ≡ status_of outcome.ending) × Shows g typed limits text outcome (Some rest)

-- A program is run on the typed bytes, with the dice and within the limits of a task.
abbrev pub RunsProgram : Call → Outside → Task → Core → ℕ → Type 0
RunsProgram c o t p result = let g = game p (dice_for c t) in Runs c (run_of_game g o.typed) t.steps (EndsProgram g o.typed (limits_of t)) result

-- the status of a trace that a fault has broken off
abbrev pub status_of_fault : RunFault → ℕ
status_of_fault Read = 5
status_of_fault Write = 5
status_of_fault OutOfMemory = 6

-- A program's run on the typed bytes is traced, with the dice and within the limits of a task: out took lines that show it, at the status of its ending;
-- or a fault broke it off: the input failed, and out took the lines up to there, or out failed within lines that may be written, at 5; or memory ran
-- out, and out took the lines up to there, at 6.
pub data TracesProgram (c : Call) (o : Outside) (t : Task) (p : Core) (result : ℕ) : Type 0 where
  has_traced : (outcome : Outcome) → result ≡ status_of outcome.ending
      → HasTraced (game p (dice_for c t)) o.typed (limits_of t) outcome (left_told c.input c.input_after) c.out c.out_after → TracesProgram c o t p result
  has_lost : (fault : RunFault) → result ≡ status_of_fault fault → (fault ≡ Read → Rose c.input.faults c.input_after.faults)
      → HasTracedFault fault (game p (dice_for c t)) o.typed (limits_of t) c.input c.input_after c.out c.out_after → TracesProgram c o t p result

-- The predicates of a program are listed, at 0: out took the report, by which those of the set are single.
pub record Lists (c : Call) (p : Core) (result : ℕ) : Type 0 where
  pub set : List Bool
  pub single : AreSingles p.preds set
  pub prints : Prints c 0 (report p set) result

-- ---- sources that are made

-- What the source of a number comes to, which is a program, as a status and a text: a report on a run of it without typed bytes, or 3 where such a run
-- writes too much.
pub data Makes (dice : List ℕ) (n : ℕ) (status : ℕ) (text : List ℕ) : Type 0 where
  reports : (p : Core) → Compiles (made_source n) (Ok p) → (output : List ℕ) (outcome : Outcome) (left : Option (List ℕ))
      → Shows (game p dice) [] made_limits output outcome left
      → status ≡ status_of outcome.ending → text ≡ made_report (made_source n) output outcome → Makes dice n status text
  overflows : (p : Core) → Compiles (made_source n) (Ok p) → (output : List ℕ) (outcome : Outcome) (left : Option (List ℕ))
      → Shows (game p dice) [] made_limits output outcome left → most_output < length output
      → status ≡ 3 → text ≡ too_long_line → Makes dice n status text

-- The source of a number is made and run, at 0 and 3: out took the whole text that it comes to.
pub record Reports (c : Call) (n : ℕ) (result : ℕ) : Type 0 where
  pub status : ℕ
  pub text : List ℕ
  pub makes : Makes c.dice n status text
  pub prints : Prints c status text result

-- ---- stories

-- How a story's run ends: at the status of its end, with its output and the line of that end.
abbrev pub EndsStory : ZRun → ℕ → List ℕ → List ℕ → Type 0
EndsStory r status text rest = (status ≡ status_of_end r.end) × (text ≡ played_text r) × (rest ≡ r.state.typed)

-- A story is played on the typed bytes, with the dice and for the steps of a task. An input that told its bytes tells them still.
abbrev pub PlaysStory : Call → Outside → Task → List ℕ → ℕ → Type 0
PlaysStory c o t bytes result =
    let r = story_run bytes o.typed (dice_for c t) in
    Runs c (run_of_story r) t.steps (EndsStory (r t.steps)) result × (IsSome c.input.left → IsSome c.input_after.left)

-- A file is loaded: it is lost, at 5, or it is no story, at 4, or it is a story and played.
pub data Loads (c : Call) (o : Outside) (t : Task) (result : ℕ) : Type 0 where
  lost_story : LostFile c t.name → Prints c 5 (file_fault_line t.name) result → Loads c o t result
  no_story : (r : StoryRefusal) → story_refusal (file_at o t.name) ≡ Some r → Prints c 4 (story_line t.name r) result → Loads c o t result
  story : story_refusal (file_at o t.name) ≡ None → PlaysStory c o t (file_at o t.name) result → Loads c o t result

-- This is a story of a program that isn't refused: the player takes it, and what it writes fits what the program's runs write.
pub record HasStory (p : Core) (bytes : List ℕ) : Type 0 where
  pub fits : build.build_refusal p ≡ None
  pub taken : story_refusal bytes ≡ None
  pub agrees : Agrees bytes p

-- A program is built in memory: it has no story, at 7, or a story of it is played.
pub data Builds (c : Call) (o : Outside) (t : Task) (p : Core) (result : ℕ) : Type 0 where
  no_story_of : (r : BuildRefusal) → build.build_refusal p ≡ Some r → Prints c 7 (build_line t.name r) result → Builds c o t p result
  plays : (bytes : List ℕ) → HasStory p bytes → PlaysStory c o t bytes result → Builds c o t p result

-- A program that is to be stored has no story, at 7.
pub record HasNone (c : Call) (name : List ℕ) (p : Core) (result : ℕ) : Type 0 where
  pub refusal : BuildRefusal
  pub refused : build.build_refusal p ≡ Some refusal
  pub prints : Prints c 7 (build_line name refusal) result

-- ---- listings

-- Each rule of a program has a mark, in order, and the marks are apart and within this story. That each is where its rule's routine stands says
-- dg_story/specs/Marks.antt.
pub record AreItsMarks (p : Core) (bytes : List ℕ) (marks : List Mark) : Type 0 where
  pub rules : map mark_name marks ≡ rule_names 0 p.preds
  pub apart : AreMarks 0 (length bytes) marks

-- The story of a program is listed, at 0, with a mark for each rule.
pub record ListsStory (c : Call) (p : Core) (result : ℕ) : Type 0 where
  pub bytes : List ℕ
  pub marks : List Mark
  pub story : HasStory p bytes
  pub are : AreItsMarks p bytes marks
  pub prints : Prints c 0 (listed bytes marks) result

-- A program has no story, at 7, or its story is listed.
pub data ListsAny (c : Call) (name : List ℕ) (p : Core) (result : ℕ) : Type 0 where
  none_to_list : HasNone c name p result → ListsAny c name p result
  one_to_list : ListsStory c p result → ListsAny c name p result

-- A listing is read: its file is lost, at 5, or it is none, at 4, with its first bad line, which is 1 where it is too long.
pub data IsUnjoined (c : Call) (o : Outside) (name : List ℕ) (result : ℕ) : Type 0 where
  lost_listing : LostFile c name → Prints c 5 (file_fault_line name) result → IsUnjoined c o name result
  no_listing : (line : ℕ) → IsBadAt (file_at o name) line → length (file_at o name) ≤ 33554432 → Prints c 4 (listing_line name line) result
      → IsUnjoined c o name result
  long_listing : 33554432 < length (file_at o name) → Prints c 4 (listing_line name 1) result → IsUnjoined c o name result

-- ---- the call

-- What a call of this command comes to, where the shelf keeps what it holds.
abbrev pub Does : Call → Outside → Option Command → ℕ → Type 0
Does c o None result = Prints c 2 usage_line result × (c.shelf_after ≡ c.shelf)
Does c o (Some (debug t)) result = Reads c o t.name (λ p. RunsProgram c o t p result) result
Does c o (Some (play t)) result = Loads c o t result
Does c o (Some (run t)) result = Reads c o t.name (λ p. Builds c o t p result) result
Does c o (Some (build name to)) result = Reads c o name (λ p. HasNone c name p result) result
Does c o (Some (singles name)) result = Reads c o name (λ p. Lists c p result) result
Does c o (Some (make n)) result = Reports c n result
Does c o (Some (list name)) result = Reads c o name (λ p. ListsAny c name p result) result
Does c o (Some (join name to)) result = IsUnjoined c o name result
Does c o (Some (trace t)) result = Reads c o t.name (λ p. TracesProgram c o t p result) result

-- How a story came to the shelf: it is held there, at 0, and nothing is printed; or the shelf failed, at 5, or found no memory, at 6.
pub data IsStored (c : Call) (to story : List ℕ) (result : ℕ) : Type 0 where
  held : result ≡ 0 → WhereTold c.shelf_after.contents (λ contents. contents to ≡ Some story) → c.out_after ≡ c.out → c.input_after ≡ c.input
      → IsStored c to story result
  not_held : Rose c.shelf.faults c.shelf_after.faults → (IsTrue c.shelf.sure → ⊥) → Prints c 5 (file_fault_line to) result →
      IsStored c to story result
  no_room_for_it : Prints c 6 no_memory_line result → IsStored c to story result

-- A source is a program, and its story is handed to the shelf, which keeps all else.
pub record Stores (c : Call) (o : Outside) (name to : List ℕ) (result : ℕ) : Type 0 where
  pub program : Core
  pub compiles : Compiles (file_at o name) (Ok program)
  pub bytes : List ℕ
  pub story : HasStory program bytes
  pub keeps : IsStored c to bytes result
  pub others : KeepsOthers to c.shelf.contents c.shelf_after.contents

-- A file is the listing of a story, which is handed to the shelf, which keeps all else.
pub record Joins (c : Call) (o : Outside) (name to : List ℕ) (result : ℕ) : Type 0 where
  pub bytes : List ℕ
  pub listing : IsListing (file_at o name) bytes
  pub short : length (file_at o name) ≤ 33554432
  pub keeps : IsStored c to bytes result
  pub others : KeepsOthers to c.shelf.contents c.shelf_after.contents

-- No memory was found before anything was done, at 6; or what the command comes to.
pub data ComesTo (c : Call) (o : Outside) (result : ℕ) : Type 0 where
  no_memory : Keeps c → Prints c 6 no_memory_line result → ComesTo c o result
  does : Keeps c → Does c o c.command result → ComesTo c o result
  stores : (name to : List ℕ) → c.command ≡ Some (build name to) → Stores c o name to result → ComesTo c o result
  joins : (name to : List ℕ) → c.command ≡ Some (join name to) → Joins c o name to result → ComesTo c o result

-- What a call comes to, for some outside as far as it is told.
pub record Answers (c : Call) (result : ℕ) : Type 0 where
  pub outside : Outside
  pub found : Finds c outside
  pub answer : ComesTo c outside result
