-- What the routines do that print what stands between two pieces of text. Hold it against docs/LANGUAGE.md, "Printing", and dg_meaning/specs/Render.antt.
use Rattle.std.specs.Prelude.{◌≡◌, ◌≢◌, ℕ, ◌+◌, ◌*◌, ◌<◌, ◌≤◌, List, [], ◌∷◌, ◌++◌, Option, Some, None, Bool, true, false, if◌then◌else◌, encode_utf8}
use Rattle.std.specs.List.{list_any}
use Rattle.dg_meaning.specs.World.{Print}
use Rattle.dg_meaning.specs.Render.{is_line, is_par, is_upper, spaces_from, last_asked, opens, separator, capital, Met}
use Rattle.z_model.specs.Zscii.{is_character}
use Rattle.z_lang.specs.State.{Program}
use Rattle.z_lang.specs.Runs.{ActsRun as Runs, Returns}
use Rattle.dg_rt.specs.declared.gaps.TheConstants.{SEPARATE_ACTS, FIRST_ACTS}
use Rattle.dg_rt.specs.Cells.{Holds, bit}
use Rattle.dg_rt.specs.Areas.{last_reg, lines_reg, spaces_reg, asked_reg, upper_reg, state}
use Rattle.dg_rt.specs.RunTime.{HasRunTime}

-- ## What the registers say

-- How the text ends: 0 where nothing was printed, 1 behind a character that opens, 2 behind another.
abbrev pub last_word : Option ℕ → ℕ
last_word None = 0
last_word (Some b) = if opens b then 1 else 2

-- What breaks the text in a gap: 2 a paragraph, 1 a line, 0 nothing.
abbrev pub break_word : List Print → ℕ
break_word gap = if list_any is_par gap then 2 else (if list_any is_line gap then 1 else 0)

-- What the last of a gap's (no space) and (space) is: 1 or 2, 0 where it has neither.
abbrev pub asked_word : Option Bool → ℕ
asked_word None = 0
asked_word (Some false) = 1
asked_word (Some true) = 2

-- The registers say what the next piece meets: how the text ends, and what the gap since comes to.
pub record Meets (cells : ℕ → ℕ) (m : Met) : Type 0 where
  pub last : cells last_reg ≡ last_word m.last
  pub lines : cells lines_reg ≡ break_word m.gap
  pub spaces : cells spaces_reg ≡ spaces_from 0 m.gap
  pub asked : cells asked_reg ≡ asked_word (last_asked None m.gap)
  pub upper : cells upper_reg ≡ bit (list_any is_upper m.gap)

-- ## The routines

-- What separates a piece from the text was printed, in 3 instructions a space and 14, and the gap asks for none of it any more.
pub record Separates (p : Program) (f w : ℕ) (memory typed output : List ℕ) (drawn first : ℕ) (cells : ℕ → ℕ) (m : Met) : Type 0 where
  pub memory' : List ℕ
  pub cells' : ℕ → ℕ
  pub holds : Holds p.world.layout memory' cells'
  pub lines : cells' lines_reg ≡ 0
  pub spaces : cells' spaces_reg ≡ 0
  pub asked : cells' asked_reg ≡ 0
  pub others : (k : ℕ) → k ≢ lines_reg → k ≢ spaces_reg → k ≢ asked_reg → cells' k ≡ cells k
  pub count : ℕ
  pub few : count ≤ 3 * spaces_from 0 m.gap + 14
  pub runs : Runs p f w SEPARATE_ACTS SEPARATE_ACTS (state memory (first ∷ []) typed drawn output) (Returns 0)
      (state memory' (first ∷ []) typed drawn (output ++ separator m.gap m.last first)) count

-- So it is with the first character of any piece, by what it meets.
abbrev pub SeparateWorks : Type 0
SeparateWorks = (p : Program) → HasRunTime p → (f w : ℕ) (memory typed output : List ℕ) (drawn first : ℕ) (cells : ℕ → ℕ) →
    Holds p.world.layout memory cells → (m : Met) → Meets cells m → Separates p f w memory typed output drawn first cells m

-- The first character of a piece was printed, in 7 instructions, as a capital where the gap asks for one, and it asks for none any more.
pub record PrintsFirst (p : Program) (f w : ℕ) (memory typed output : List ℕ) (drawn first : ℕ) (cells : ℕ → ℕ) (gap : List Print) : Type 0 where
  pub memory' : List ℕ
  pub cells' : ℕ → ℕ
  pub locals' : List ℕ
  pub holds : Holds p.world.layout memory' cells'
  pub upper : cells' upper_reg ≡ 0
  pub others : (k : ℕ) → k ≢ upper_reg → cells' k ≡ cells k
  pub count : ℕ
  pub few : count ≤ 7
  pub runs : Runs p f w FIRST_ACTS FIRST_ACTS (state memory (first ∷ []) typed drawn output) (Returns 0)
      (state memory' locals' typed drawn (output ++ capital gap (encode_utf8 first))) count

-- So it is with any character that a story prints.
abbrev pub FirstWorks : Type 0
FirstWorks = (p : Program) → HasRunTime p → (f w : ℕ) (memory typed output : List ℕ) (drawn first : ℕ) (cells : ℕ → ℕ) →
    Holds p.world.layout memory cells → first < 65536 → is_character first ≡ true → (gap : List Print) →
    cells upper_reg ≡ bit (list_any is_upper gap) →
    PrintsFirst p f w memory typed output drawn first cells gap
