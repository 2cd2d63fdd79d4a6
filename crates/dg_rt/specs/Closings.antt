-- How a run ends. Hold it against docs/STORIES.md, where it says with which line a story ends.
use Rattle.std.specs.Prelude.{ℕ, ◌≤◌, List, [], ◌∷◌, ◌++◌, ◌==◌, if◌then◌else◌}
use Rattle.dg_base.specs.declared.run.Ending.{Ending}
use Rattle.dg_base.specs.declared.run.Ending.TheVariants as endings
use Rattle.dg_meaning.specs.Transcript.{line_of}
use Rattle.z_model.specs.declared.end.Halt.TheVariants.{AtQuit}
use Rattle.z_lang.specs.declared.act.Act.{Act}
use Rattle.z_lang.specs.State.{State, Program}
use Rattle.z_lang.specs.Acts.{with_output}
use Rattle.z_lang.specs.Runs.{ActsRun as Runs, Stops}
use Rattle.dg_rt.specs.declared.closings.TheConstants.{DONE_ACTS, FAILED_ACTS, STOPPED_ACTS, HEAP_LIMIT_ACTS, TRAIL_LIMIT_ACTS, AUX_LIMIT_ACTS, KEEP_LIMIT_ACTS}
use Rattle.dg_rt.specs.Cells.{Holds}
use Rattle.dg_rt.specs.Areas.{last_reg, state}
use Rattle.dg_rt.specs.RunTime.{HasRunTime}

-- What closes a text that ends so: a newline where something was printed, and the line of the ending.
abbrev pub closing : ℕ → Ending → List ℕ
closing last ending = (if last == 0 then [] else 10 ∷ []) ++ line_of ending

-- The instructions that a closing takes at most.
abbrev pub closing_most : ℕ
closing_most = 20

-- Acts end the run behind a text that ends so: its closing is printed, within a frame.
pub record Closes (p : Program) (acts : List Act) (s : State) (last : ℕ) (ending : Ending) : Type 0 where
  pub count : ℕ
  pub runs : Runs p 1 0 acts acts s (Stops AtQuit) (with_output s (closing last ending)) count
  pub few : count ≤ closing_most

-- So they do wherever they are called.
abbrev pub EndsRuns : List Act → Ending → Type 0
EndsRuns acts ending = (p : Program) → HasRunTime p → (memory typed output : List ℕ) (drawn : ℕ) (cells : ℕ → ℕ) →
    Holds p.world.layout memory cells →
    Closes p acts (state memory [] typed drawn output) (cells last_reg) ending

-- The routine of each ending ends the run with its line.
pub record ClosingsWork : Type 0 where
  pub done : EndsRuns DONE_ACTS endings.Done
  pub failed : EndsRuns FAILED_ACTS endings.Failed
  pub stopped : EndsRuns STOPPED_ACTS endings.Stopped
  pub heap : EndsRuns HEAP_LIMIT_ACTS endings.HeapLimit
  pub trail : EndsRuns TRAIL_LIMIT_ACTS endings.TrailLimit
  pub aux : EndsRuns AUX_LIMIT_ACTS endings.AuxLimit
  pub keep : EndsRuns KEEP_LIMIT_ACTS endings.KeepLimit
