-- What the routine does that copies a value out of the heap. Hold it against docs/LANGUAGE.md, where it says what is copied when a value is gathered or
-- kept.
use Rattle.std.specs.Prelude.{◌≡◌, ℕ, suc, ◌+◌, ◌*◌, ◌<◌, ◌≤◌, List, [], ◌∷◌, map, length, false}
use Rattle.dg_base.specs.declared.cells.Cell.{Cell}
use Rattle.dg_base.specs.declared.cells.Cell.TheVariants as cell
use Rattle.dg_meaning.specs.Values.{Value}
use Rattle.dg_meaning.specs.ValueCells.{cells_of}
use Rattle.dg_meaning.specs.Letters.{letters_in}
use Rattle.dg_meaning.specs.Substitutions.{Substitution, resolved, contains}
use Rattle.dg_meaning.specs.Unify.{looks}
use Rattle.z_model.specs.declared.story.Layout.{Layout}
use Rattle.z_lang.specs.declared.act.Act.{Act}
use Rattle.z_lang.specs.State.{Program}
use Rattle.z_lang.specs.Runs.{ActsRun as Runs, Returns}
use Rattle.dg_rt.specs.declared.copies.TheConstants.{COPY_OUT_ACTS}
use Rattle.dg_rt.specs.Cells.{at_cell, Holds}
use Rattle.dg_rt.specs.Areas.{areas_end, state}
use Rattle.dg_rt.specs.Shapes.{Shape, IsShape, Shows, Stands}
use Rattle.dg_rt.specs.RunTime.{HasRunTime}

-- ## Words of a copy

-- The word of a cell of a copied value.
abbrev pub cell_word : Cell → ℕ
cell_word (cell.Num n) = n
cell_word (cell.Word n) = 16384 + n
cell_word (cell.Object n) = 24576 + n
cell_word cell.Nil = 28672
cell_word cell.Pair = 28673
cell_word cell.Fresh = 32768
cell_word (cell.Unknown letters) = 32769 + letters
cell_word (cell.Char letter) = letter
cell_word (cell.Closure place parts) = 49152 + place

-- The words of a copied value.
abbrev pub words_of : Value → List ℕ
words_of v = map cell_word (cells_of v)

-- Words stand in a row from a place on.
abbrev pub Row : (ℕ → ℕ) → ℕ → List ℕ → Type 0
Row cells j [] = Unit {0}
Row cells j (x ∷ xs) = (cells j ≡ x) × Row cells (suc j) xs

-- ## The routine

-- A row of words is written from a place on, and the address behind it is answered; or it would pass the end, and 0 is answered. Nothing else is
-- written.
pub data Copies (layout : Layout) (cells : ℕ → ℕ) (j end : ℕ) (row : List ℕ) (leads : ℕ → List ℕ → List ℕ → Type 0) : Type 0 where
  in_area : (memory locals : List ℕ) (cells' : ℕ → ℕ) → Holds layout memory cells' → j + length row ≤ end → Row cells' j row →
      ((k : ℕ) → (j ≤ k → j + length row ≤ k) → cells' k ≡ cells k) → leads (at_cell (j + length row)) memory locals →
      Copies layout cells j end row leads
  past_it : (memory locals : List ℕ) (cells' : ℕ → ℕ) → Holds layout memory cells' → end < j + length row →
      ((k : ℕ) → (j ≤ k → end ≤ k) → cells' k ≡ cells k) → leads 0 memory locals → Copies layout cells j end row leads

-- Acts of the routine do so within so many instructions, what was spent before included, and with a frame and 5 words a level.
pub record CopiesOut (p : Program) (f : ℕ) (acts : List Act) (typed output : List ℕ) (drawn : ℕ) (memory locals : List ℕ) (cells : ℕ → ℕ)
    (j end : ℕ)
    (row : List ℕ) (spent most : ℕ) : Type 0 where
  pub count : ℕ
  pub ends : Copies p.world.layout cells j end row (λ x memory' locals'.
      Runs p f (5 * f) COPY_OUT_ACTS acts (state memory locals typed drawn output) (Returns x) (state memory' locals' typed drawn output) count)
  pub few : count + spent ≤ most

-- So it does with any value and any area behind the trail, within 20 instructions for each node and link of the value and 8 for each letter. The
-- variable n, which isn't in the value, is the one for which a test of containment would look at all of it.
abbrev pub CopyWorks : Type 0
CopyWorks = (p : Program) → HasRunTime p → (sh : Shape) → IsShape sh → (typed output : List ℕ) (drawn : ℕ) (S : Substitution) (memory : List ℕ)
    (cells : ℕ → ℕ) → Holds p.world.layout memory cells → Stands sh cells S → (j end : ℕ) → areas_end ≤ j → j ≤ end →
    at_cell end ≤ p.world.layout.base → at_cell end < 65536 → (x : ℕ) (v : Value) → Shows sh x v → (n : ℕ) →
    contains n (resolved S v) ≡ false →
    CopiesOut p 3335 COPY_OUT_ACTS typed output drawn memory (x ∷ at_cell j ∷ at_cell end ∷ 0 ∷ 0 ∷ []) cells j end (words_of (resolved S v)) 0
    (20 * looks S n v + 8 * letters_in (resolved S v))
