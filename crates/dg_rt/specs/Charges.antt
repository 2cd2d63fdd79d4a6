-- What the routine does that takes cells of the heap. Hold it against docs/LANGUAGE.md, where it says what counts as a cell.
use Rattle.std.specs.Prelude.{◌≡◌, ◌≢◌, ℕ, ◌+◌, ◌<◌, ◌≤◌, List, [], ◌∷◌, ◌++◌}
use Rattle.dg_base.specs.declared.run.Ending.TheVariants.{HeapLimit}
use Rattle.z_model.specs.declared.end.Halt.TheVariants.{AtQuit}
use Rattle.z_lang.specs.declared.act.Act.{Act}
use Rattle.z_lang.specs.State.{Program}
use Rattle.z_lang.specs.Runs.{ActsRun as Runs, Returns, Stops}
use Rattle.dg_rt.specs.declared.heap.TheConstants.{CHARGE_ACTS}
use Rattle.dg_rt.specs.Cells.{Holds}
use Rattle.dg_rt.specs.Areas.{heap_reg, term_reg, last_reg, state}
use Rattle.dg_rt.specs.RunTime.{HasRunTime}
use Rattle.dg_rt.specs.Closings.{closing, closing_most}

-- A routine meets the heap's limit: its closing ends the run, in so many instructions and those of the closing.
pub record MeetsLimit (p : Program) (f w : ℕ) (acts : List Act) (memory locals typed output : List ℕ) (drawn : ℕ) (cells : ℕ → ℕ)
    (most : ℕ) : Type 0 where
  pub memory' : List ℕ
  pub count : ℕ
  pub runs : Runs p f w acts acts (state memory locals typed drawn output) (Stops AtQuit)
      (state memory' [] typed drawn (output ++ closing (cells last_reg) HeapLimit)) count
  pub few : count ≤ most + closing_most

-- Cells were taken, in 5 instructions, and the word of a box that begins with them is kept.
pub record Charged (p : Program) (f w : ℕ) (memory typed output : List ℕ) (drawn n : ℕ) (cells : ℕ → ℕ) : Type 0 where
  pub memory' : List ℕ
  pub cells' : ℕ → ℕ
  pub locals' : List ℕ
  pub holds : Holds p.world.layout memory' cells'
  pub heap : cells' heap_reg ≡ cells heap_reg + n
  pub term : cells' term_reg ≡ 49152 + cells heap_reg
  pub others : (k : ℕ) → k ≢ heap_reg → k ≢ term_reg → cells' k ≡ cells k
  pub runs : Runs p f w CHARGE_ACTS CHARGE_ACTS (state memory (n ∷ []) typed drawn output) (Returns 0) (state memory' locals' typed drawn output) 5

-- So it is where there is room for them; else the limit is met.
pub record ChargeWorks : Type 0 where
  pub takes : (p : Program) → HasRunTime p → (f w : ℕ) (memory typed output : List ℕ) (drawn n : ℕ) (cells : ℕ → ℕ) →
      Holds p.world.layout memory cells →
      cells heap_reg + n ≤ 10000 → Charged p f w memory typed output drawn n cells
  pub meets : (p : Program) → HasRunTime p → (f w : ℕ) → 2 ≤ f → (memory typed output : List ℕ) (drawn n : ℕ) (cells : ℕ → ℕ) →
      Holds p.world.layout memory cells → cells heap_reg ≤ 10000 → n ≤ 10001 → 10000 < cells heap_reg + n →
      MeetsLimit p f w CHARGE_ACTS memory (n ∷ []) typed output drawn cells 4
