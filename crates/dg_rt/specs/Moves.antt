-- What the routine does that moves words of an area, and the one that tells how much a copy takes. Hold it against docs/LANGUAGE.md, where it says what
-- is kept, and dg_meaning/specs/Copies.antt.
use Rattle.std.specs.Prelude.{◌≡◌, ℕ, ◌+◌, ◌*◌, ◌<◌, ◌≤◌, List, [], ◌∷◌, length}
use Rattle.dg_meaning.specs.Values.{Value}
use Rattle.dg_meaning.specs.Copies.{copy_cells}
use Rattle.dg_meaning.specs.Unify.{size}
use Rattle.z_lang.specs.declared.act.Act.{Act}
use Rattle.z_lang.specs.State.{Program}
use Rattle.z_lang.specs.Runs.{ActsRun as Runs, Returns}
use Rattle.z_lang.specs.Standing.{IsKept}
use Rattle.dg_rt.specs.declared.keeping.TheConstants.{MOVE_ACTS, CELLS_ACTS}
use Rattle.dg_rt.specs.Cells.{at_cell, Holds}
use Rattle.dg_rt.specs.Areas.{areas_end, state}
use Rattle.dg_rt.specs.RunTime.{HasRunTime}
use Rattle.dg_rt.specs.Laying.{Formed}
use Rattle.dg_rt.specs.Copies.{words_of, Row}
use Rattle.dg_rt.specs.CopiesIn.{HasCaptures}

-- So many words were moved down, from one place to another, in 7 instructions each and 2; every word that isn't written stays.
pub record Moves (p : Program) (f w : ℕ) (acts : List Act) (memory typed output : List ℕ) (drawn from to n a : ℕ) (cells : ℕ → ℕ) : Type 0 where
  pub memory' : List ℕ
  pub cells' : ℕ → ℕ
  pub locals' : List ℕ
  pub holds : Holds p.world.layout memory' cells'
  pub are : (i : ℕ) → i < n → cells' (to + i) ≡ cells (from + i)
  pub others : (k : ℕ) → (to ≤ k → to + n ≤ k) → cells' k ≡ cells k
  pub count : ℕ
  pub few : count ≤ 7 * n + 2
  pub runs : Runs p f w MOVE_ACTS acts (state memory (at_cell from ∷ at_cell to ∷ n ∷ a ∷ []) typed drawn output) (Returns 0)
      (state memory' locals' typed drawn output) count

-- So it is behind the areas of a run, also where the two parts overlap.
abbrev pub MoveWorks : Type 0
MoveWorks = (p : Program) → HasRunTime p → (f w : ℕ) (memory typed output : List ℕ) (drawn from to n : ℕ) (cells : ℕ → ℕ) →
    Holds p.world.layout memory cells → areas_end ≤ to → to ≤ from → at_cell (from + n) ≤ p.world.layout.base → at_cell (from + n) < 65536 →
    Moves p f w MOVE_ACTS memory typed output drawn from to n 0 cells

-- ## How much a copy takes

-- How many cells of the heap a copy of a value takes was answered, from the value's cells in an area, and nothing was changed.
pub record TellsCells (p : Program) (f w : ℕ) (acts : List Act) (memory locals typed output : List ℕ) (drawn total most : ℕ) : Type 0 where
  pub locals' : List ℕ
  pub count : ℕ
  pub few : count ≤ most
  pub runs : Runs p f w CELLS_ACTS acts (state memory locals typed drawn output) (Returns total) (state memory locals' typed drawn output) count

-- So it is with the cells of any value, in 14 instructions for each node of it and 2.
abbrev pub CellsWorks : Type 0
CellsWorks = (p : Program) (story : List ℕ) (captures : ℕ → ℕ) → HasCaptures p story captures → (f w : ℕ) (memory typed output : List ℕ)
    (drawn : ℕ) (cells : ℕ → ℕ) → Holds p.world.layout memory cells → IsKept p.world.layout.base story memory → (v : Value) (r : ℕ) →
    Formed captures v →
    at_cell (r + length (words_of v)) ≤ p.world.layout.base → at_cell (r + length (words_of v)) < 65536 → Row cells r (words_of v) →
    copy_cells v < 32768 →
    TellsCells p f w CELLS_ACTS memory (at_cell r ∷ at_cell (r + length (words_of v)) ∷ 0 ∷ 0 ∷ []) typed output drawn (copy_cells v) (14 * size v + 2)
