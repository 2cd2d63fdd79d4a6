-- What the routines do that read and write what is set of objects: a table has a word of each object, or a byte of each that is 1 or 0. Hold it against
-- docs/LANGUAGE.md, "The world", and dg_meaning/specs/Facts.antt.
use Rattle.std.specs.Prelude.{◌≡◌, ◌≢◌, ℕ, ◌+◌, ◌*◌, ◌/◌, ◌%◌, ◌<◌, ◌≤◌, List, [], ◌∷◌, ◌==◌, if◌then◌else◌}
use Rattle.z_lang.specs.declared.act.Act.{Act}
use Rattle.z_lang.specs.State.{Program}
use Rattle.z_lang.specs.Runs.{ActsRun as Runs, Returns}
use Rattle.dg_rt.specs.declared.world.TheConstants.{VALUE_ACTS, SET_ACTS, CLEAR_ACTS, CLEAR_ALL_ACTS, FLAG_ACTS, SET_FLAG_ACTS, CLEAR_FLAGS_ACTS}
use Rattle.dg_rt.specs.Cells.{at_cell, Holds}
use Rattle.dg_rt.specs.Areas.{areas_end, state}
use Rattle.dg_rt.specs.RunTime.{HasRunTime}
use Rattle.dg_rt.specs.Operands.{no_value}

-- ## Words

-- A table of so many words begins with this one, behind the areas of a run and within what may be written.
pub record IsTable (p : Program) (t n : ℕ) : Type 0 where
  pub from : areas_end ≤ t
  pub within : at_cell (t + n) ≤ p.world.layout.base

-- The word of an object is answered, in 2 instructions, and nothing is changed.
abbrev pub ValueWorks : Type 0
ValueWorks = (p : Program) → HasRunTime p → (f w : ℕ) (memory typed output : List ℕ) (drawn t n o : ℕ) (cells : ℕ → ℕ) →
    Holds p.world.layout memory cells → IsTable p t n → o < n →
    Runs p f w VALUE_ACTS VALUE_ACTS (state memory (at_cell t ∷ o ∷ []) typed drawn output) (Returns (cells (t + o)))
    (state memory (cells (t + o) ∷ o ∷ []) typed drawn output) 2

-- A routine gives one word this value, in so many instructions, and every other one stays.
pub record Writes (p : Program) (f w : ℕ) (acts : List Act) (memory locals typed output : List ℕ) (drawn k x : ℕ) (cells : ℕ → ℕ)
    (most : ℕ) : Type 0 where
  pub memory' : List ℕ
  pub cells' : ℕ → ℕ
  pub locals' : List ℕ
  pub holds : Holds p.world.layout memory' cells'
  pub is : cells' k ≡ x
  pub others : (j : ℕ) → j ≢ k → cells' j ≡ cells j
  pub count : ℕ
  pub few : count ≤ most
  pub runs : Runs p f w acts acts (state memory locals typed drawn output) (Returns 0) (state memory' locals' typed drawn output) count

-- So the word of an object is set, and so it is cleared.
abbrev pub SetWorks : Type 0
SetWorks = (p : Program) → HasRunTime p → (f w : ℕ) (memory typed output : List ℕ) (drawn t n o x : ℕ) (cells : ℕ → ℕ) →
    Holds p.world.layout memory cells → IsTable p t n → o < n → x < 65536 →
    Writes p f w SET_ACTS memory (at_cell t ∷ o ∷ x ∷ []) typed output drawn (t + o) x cells 2

abbrev pub ClearWorks : Type 0
ClearWorks = (p : Program) → HasRunTime p → (f w : ℕ) (memory typed output : List ℕ) (drawn t n o : ℕ) (cells : ℕ → ℕ) →
    Holds p.world.layout memory cells → IsTable p t n → o < n →
    Writes p f w CLEAR_ACTS memory (at_cell t ∷ o ∷ []) typed output drawn (t + o) no_value cells 2

-- The words of all objects are cleared, in 4 instructions each and 2, and every other one stays.
pub record ClearsAll (p : Program) (f w : ℕ) (acts : List Act) (memory typed output : List ℕ) (drawn t n : ℕ) (cells : ℕ → ℕ) : Type 0 where
  pub memory' : List ℕ
  pub cells' : ℕ → ℕ
  pub locals' : List ℕ
  pub holds : Holds p.world.layout memory' cells'
  pub are : (o : ℕ) → o < n → cells' (t + o) ≡ no_value
  pub others : (k : ℕ) → (t ≤ k → t + n ≤ k) → cells' k ≡ cells k
  pub count : ℕ
  pub few : count ≤ 4 * n + 2
  pub runs : Runs p f w CLEAR_ALL_ACTS acts (state memory (at_cell t ∷ n ∷ []) typed drawn output) (Returns 0)
      (state memory' locals' typed drawn output) count

-- So it is with any table.
abbrev pub ClearAllWorks : Type 0
ClearAllWorks = (p : Program) → HasRunTime p → (f w : ℕ) (memory typed output : List ℕ) (drawn t n : ℕ) (cells : ℕ → ℕ) →
    Holds p.world.layout memory cells → IsTable p t n → ClearsAll p f w CLEAR_ALL_ACTS memory typed output drawn t n cells

-- ## Bytes

-- The byte of a number from 64 on, by the words.
abbrev pub byte_at : (ℕ → ℕ) → ℕ → ℕ
byte_at cells b = if b % 2 == 0 then cells (b / 2) / 256 else cells (b / 2) % 256

-- A table of so many bytes begins with this one, behind the areas of a run and before the last byte that may be written.
pub record AreBytes (p : Program) (t n : ℕ) : Type 0 where
  pub from : 2 * areas_end ≤ t
  pub within : 64 + t + n < p.world.layout.base

-- Each of them is 1 or 0.
abbrev pub AreFlags : (ℕ → ℕ) → ℕ → ℕ → Type 0
AreFlags cells t n = (o : ℕ) → o < n → byte_at cells (t + o) ≤ 1

-- The flag of an object is answered, in 7 instructions, and nothing is changed.
pub record TellsFlag (p : Program) (f w : ℕ) (memory typed output : List ℕ) (drawn t o : ℕ) (cells : ℕ → ℕ) : Type 0 where
  pub locals' : List ℕ
  pub runs : Runs p f w FLAG_ACTS FLAG_ACTS (state memory ((64 + t) ∷ o ∷ []) typed drawn output) (Returns (byte_at cells (t + o)))
      (state memory locals' typed drawn output) 7

abbrev pub FlagWorks : Type 0
FlagWorks = (p : Program) → HasRunTime p → (f w : ℕ) (memory typed output : List ℕ) (drawn t n o : ℕ) (cells : ℕ → ℕ) →
    Holds p.world.layout memory cells → AreBytes p t n → AreFlags cells t n → o < n → TellsFlag p f w memory typed output drawn t o cells

-- A routine gives one byte this value, in so many instructions; every other byte stays, and every word that it is no part of.
pub record WritesByte (p : Program) (f w : ℕ) (acts : List Act) (memory locals typed output : List ℕ) (drawn b x : ℕ) (cells : ℕ → ℕ)
    (most : ℕ) : Type 0 where
  pub memory' : List ℕ
  pub cells' : ℕ → ℕ
  pub locals' : List ℕ
  pub holds : Holds p.world.layout memory' cells'
  pub is : byte_at cells' b ≡ x
  pub bytes : (j : ℕ) → j ≢ b → byte_at cells' j ≡ byte_at cells j
  pub others : (k : ℕ) → k ≢ b / 2 → cells' k ≡ cells k
  pub count : ℕ
  pub few : count ≤ most
  pub runs : Runs p f w acts acts (state memory locals typed drawn output) (Returns 0) (state memory' locals' typed drawn output) count

-- So a flag is set and cleared, in 18 instructions.
abbrev pub SetFlagWorks : Type 0
SetFlagWorks = (p : Program) → HasRunTime p → (f w : ℕ) → 1 ≤ f → 2 ≤ w → (memory typed output : List ℕ) (drawn t n o x : ℕ)
    (cells : ℕ → ℕ) → Holds p.world.layout memory cells → AreBytes p t n → AreFlags cells t n → o < n → x ≤ 1 →
    WritesByte p f w SET_FLAG_ACTS memory ((64 + t) ∷ o ∷ x ∷ 0 ∷ []) typed output drawn (t + o) x cells 18

-- The flags of all objects are cleared, in 22 instructions each and 2; every other byte stays, and every word that isn't of the table.
pub record ClearsFlags (p : Program) (f w : ℕ) (acts : List Act) (memory typed output : List ℕ) (drawn t n a : ℕ) (cells : ℕ → ℕ) : Type 0 where
  pub memory' : List ℕ
  pub cells' : ℕ → ℕ
  pub locals' : List ℕ
  pub holds : Holds p.world.layout memory' cells'
  pub are : (o : ℕ) → o < n → byte_at cells' (t + o) ≡ 0
  pub bytes : (j : ℕ) → (t ≤ j → t + n ≤ j) → byte_at cells' j ≡ byte_at cells j
  pub others : (k : ℕ) → (t ≤ 2 * k + 1 → t + n ≤ 2 * k) → cells' k ≡ cells k
  pub count : ℕ
  pub few : count ≤ 22 * n + 2
  pub runs : Runs p f w CLEAR_FLAGS_ACTS acts (state memory ((64 + t) ∷ n ∷ a ∷ []) typed drawn output) (Returns 0)
      (state memory' locals' typed drawn output) count

-- So it is with any table.
abbrev pub ClearFlagsWorks : Type 0
ClearFlagsWorks = (p : Program) → HasRunTime p → (f w : ℕ) → 2 ≤ f → 6 ≤ w → (memory typed output : List ℕ) (drawn t n : ℕ)
    (cells : ℕ → ℕ) → Holds p.world.layout memory cells → AreBytes p t n → AreFlags cells t n →
    ClearsFlags p f w CLEAR_FLAGS_ACTS memory typed output drawn t n 0 cells

-- ## All

-- The routines of the world do so.
pub record WorldWorks : Type 0 where
  pub value : ValueWorks
  pub set : SetWorks
  pub clear : ClearWorks
  pub clear_all : ClearAllWorks
  pub flag : FlagWorks
  pub set_flag : SetFlagWorks
  pub clear_flags : ClearFlagsWorks
