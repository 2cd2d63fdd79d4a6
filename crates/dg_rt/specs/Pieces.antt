-- What the routines do that print a piece of a value. Hold it against docs/LANGUAGE.md, where it says how a value is printed, and
-- dg_meaning/specs/Render.antt.
use Rattle.std.specs.Prelude.{◌≡◌, ◌≢◌, ℕ, ◌+◌, ◌*◌, ◌<◌, ◌≤◌, List, [], ◌∷◌, ◌++◌, length}
use Rattle.std.specs.Fmt.{decimal}
use Rattle.dg_meaning.specs.Values.{Unknown, leaf}
use Rattle.dg_meaning.specs.Substitutions.{Substitution}
use Rattle.dg_meaning.specs.World.{Piece}
use Rattle.dg_meaning.specs.Pieces.{word_text}
use Rattle.dg_meaning.specs.Render.{spaces_from, upper, Met, met_behind, written}
use Rattle.z_lang.specs.declared.act.Act.{Act}
use Rattle.z_lang.specs.State.{Program}
use Rattle.z_lang.specs.Runs.{ActsRun as Runs, Returns}
use Rattle.dg_rt.specs.declared.pieces.TheConstants.{PRINT_MARK_ACTS, PRINT_NUMBER_ACTS, PRINT_LETTERS_ACTS}
use Rattle.dg_rt.specs.Cells.{Holds}
use Rattle.dg_rt.specs.Areas.{last_reg, lines_reg, spaces_reg, asked_reg, upper_reg, state}
use Rattle.dg_rt.specs.Shapes.{Shape, IsShape, Shows, Stands}
use Rattle.dg_rt.specs.RunTime.{HasRunTime}
use Rattle.dg_rt.specs.Gaps.{Meets}

-- A piece was printed with what separates it from the text, in 3 instructions a space and so many more, and the registers say what the next one meets.
pub record PrintsPiece (p : Program) (f w : ℕ) (acts : List Act) (memory locals typed output : List ℕ) (drawn : ℕ) (cells : ℕ → ℕ) (m : Met)
    (bytes : List ℕ) (most : ℕ) : Type 0 where
  pub memory' : List ℕ
  pub cells' : ℕ → ℕ
  pub locals' : List ℕ
  pub holds : Holds p.world.layout memory' cells'
  pub meets : Meets cells' (met_behind m (Piece bytes))
  pub others : (k : ℕ) → k ≢ last_reg → k ≢ lines_reg → k ≢ spaces_reg → k ≢ asked_reg → k ≢ upper_reg → cells' k ≡ cells k
  pub count : ℕ
  pub few : count ≤ 3 * spaces_from 0 m.gap + most
  pub runs : Runs p f w acts acts (state memory locals typed drawn output) (Returns 0)
      (state memory' locals' typed drawn (output ++ written m (Piece bytes))) count

-- So it is with a mark that is no letter, behind what a piece before has left.
abbrev pub MarkWorks : Type 0
MarkWorks = (p : Program) → HasRunTime p → (f w : ℕ) → 1 ≤ f → 1 ≤ w → (memory typed output : List ℕ) (drawn c : ℕ)
    (cells : ℕ → ℕ) → Holds p.world.layout memory cells → 31 < c → c < 127 → upper c ≡ c → (m : Met) → Meets cells m →
    PrintsPiece p f w PRINT_MARK_ACTS memory (c ∷ []) typed output drawn cells m (c ∷ []) 21

-- So it is with a number, in decimal.
abbrev pub NumberWorks : Type 0
NumberWorks = (p : Program) → HasRunTime p → (f w : ℕ) → 1 ≤ f → 1 ≤ w → (memory typed output : List ℕ) (drawn n : ℕ)
    (cells : ℕ → ℕ) → Holds p.world.layout memory cells → n < 16384 → (m : Met) → Meets cells m →
    PrintsPiece p f w PRINT_NUMBER_ACTS memory (n ∷ []) typed output drawn cells m (decimal n) 19

-- ## Letters

-- So it is with the letters of an unknown word, in 8 instructions each.
abbrev pub LettersWork : Type 0
LettersWork = (p : Program) → HasRunTime p → (f w : ℕ) → 1 ≤ f → 1 ≤ w → (memory typed output : List ℕ) (drawn : ℕ) (sh : Shape) →
    IsShape sh → (cells : ℕ → ℕ) → Holds p.world.layout memory cells → (S : Substitution) → Stands sh cells S → (x : ℕ)
    (letters : List ℕ) → Shows sh x (leaf (Unknown letters)) → (m : Met) → Meets cells m →
    PrintsPiece p f w PRINT_LETTERS_ACTS memory (x ∷ 0 ∷ 0 ∷ []) typed output drawn cells m (word_text letters) (8 * length letters + 31)

-- The routines of pieces do so.
pub record PiecesWork : Type 0 where
  pub mark : MarkWorks
  pub number : NumberWorks
  pub letters : LettersWork
