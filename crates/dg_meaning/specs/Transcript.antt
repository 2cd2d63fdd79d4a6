-- A run and its transcript. Hold it against the Dialog manual, chapters "Choice points" (a program asks its entry point) and "Output".
use Rattle.std.specs.Prelude.{ℕ, List, [], ◌∷◌, ◌++◌, Option, Some, None, false, codes, replicate}
use Rattle.dg_base.specs.declared.program.Goal.{Goal}
use Rattle.dg_base.specs.declared.program.Goal.TheVariants.{Ask}
use Rattle.dg_base.specs.declared.run.Ending.{Ending}
use Rattle.dg_base.specs.declared.run.Ending.TheVariants.{Done as Done-Ending, Quit as Quit-Ending, Failed as Failed-Ending, Stopped, InputEnded, StepLimit, HeapLimit, TrailLimit, AuxLimit, KeepLimit}
use Rattle.dg_meaning.specs.Facts.{kinds_of, kept_size, start_facts}
use Rattle.dg_meaning.specs.Choosing.{no_picks}
use Rattle.dg_meaning.specs.World.{Game, World, Event, Print, prints}
use Rattle.dg_meaning.specs.Moves.{goals_at, new_vars}
use Rattle.dg_meaning.specs.Path.{Path, Result, Failing, CutFail, StopTo, End, Answer}
use Rattle.dg_meaning.specs.Search.{search}
use Rattle.dg_meaning.specs.Render.{render, nothing_met, met_from}

-- ## A run

-- How a run has ended, what happened in it, and what is left of its budget of goals.
pub record Run : Type 0 where
  pub left : ℕ
  pub world : World
  pub ending : Ending

-- The ending of a run whose search gives this result.
abbrev pub ending_of : Result → Ending
ending_of Failing = Failed-Ending
ending_of (CutFail t) = Failed-Ending
ending_of (StopTo s c) = Stopped
ending_of (End e) = e

-- The run whose search gives this answer.
abbrev pub run_of : Answer → Run
run_of a = record { left = a.left; world = a.world; ending = ending_of a.result }

-- What starts set is set, and counts as kept; nothing has happened, no select has picked, and all of the typed bytes are left.
abbrev pub start_world : Game → List ℕ → World
start_world g typed =
    let facts = start_facts g.program.places in
    record {
      events = [];
      gathered = [];
      meters = record { heap = 0; trail = 0; aux = 0; keep = kept_size (kinds_of g.program) facts; work = 0 };
      typed = typed;
      dice = 0;
      facts = facts;
      sites = replicate g.program.sites no_picks;
    }

-- The path on which these goals are asked, with so many new variables, which count nothing.
abbrev pub asking_path : List Goal → ℕ → Path
asking_path goals count = record {
  steps = goals_at (new_vars count 0) 0 goals;
  registers = record { next_tag = 1; stoppable = None; bound = []; next_var = count; heap = 0; trail = 0 };
}

-- The query of the entry point.
abbrev pub start_path : Game → Path
start_path g = asking_path (Ask g.program.entry [] false ∷ []) 0

-- The run of a game on typed bytes, with a budget of n goals.
unfoldable pub run : Game → List ℕ → ℕ → Run
run g typed n = run_of (search g n (start_path g) (start_world g typed))

-- ## Its transcript

-- The text of events.
abbrev pub text_of : List Event → List ℕ
text_of events = render (prints events)

-- The line of an ending; a run that is done or has quit has none.
abbrev pub line_of : Ending → List ℕ
line_of Done-Ending = []
line_of Quit-Ending = []
line_of Failed-Ending = codes "[Failed]" ++ 10 ∷ []
line_of Stopped = codes "[Stopped]" ++ 10 ∷ []
line_of InputEnded = codes "[End of input]" ++ 10 ∷ []
line_of StepLimit = codes "[Step limit]" ++ 10 ∷ []
line_of HeapLimit = codes "[Heap limit]" ++ 10 ∷ []
line_of TrailLimit = codes "[Trail limit]" ++ 10 ∷ []
line_of AuxLimit = codes "[Aux limit]" ++ 10 ∷ []
line_of KeepLimit = codes "[Keep limit]" ++ 10 ∷ []

-- The line after want of memory.
abbrev pub no_memory_line : List ℕ
no_memory_line = codes "[No memory]" ++ 10 ∷ []

-- The line after an input fault.
abbrev pub input_fault_line : List ℕ
input_fault_line = codes "[Input fault]" ++ 10 ∷ []

-- A newline, where a piece was printed.
abbrev pub newline_behind : Option ℕ → List ℕ
newline_behind None = []
newline_behind (Some last) = 10 ∷ []

-- What closes the text of these things: a newline where a piece was printed, and a line.
abbrev pub ending_line : List Print → List ℕ → List ℕ
ending_line es line = newline_behind (met_from nothing_met es).last ++ line

-- The text of these things, closed with a line.
abbrev pub closed_text : List Print → List ℕ → List ℕ
closed_text es line = render es ++ ending_line es line

-- The text of events, closed with a line.
abbrev pub closed : List Event → List ℕ → List ℕ
closed events line = closed_text (prints events) line

-- All that a run with a budget of n goals writes.
abbrev pub transcript : Game → List ℕ → ℕ → List ℕ
transcript g typed n = let r = run g typed n in closed r.world.events (line_of r.ending)
