-- What the routines do that read a typed line and make values of letters. Hold it against docs/LANGUAGE.md, "Typed lines and words", and
-- dg_meaning/specs/Words.antt.
use Rattle.std.specs.Prelude.{◌≡◌, ◌≢◌, ℕ, ◌+◌, ◌*◌, ◌<◌, ◌≤◌, List, [], ◌∷◌, length, Some, None, ◌==◌, if◌then◌else◌}
use Rattle.z_model.specs.declared.end.Halt.TheVariants.{AtInput}
use Rattle.dg_meaning.specs.Copies.{vars_in, copy_cells}
use Rattle.dg_meaning.specs.Letters.{letters_in}
use Rattle.dg_meaning.specs.Substitutions.{Substitution}
use Rattle.dg_meaning.specs.Unify.{size}
use Rattle.dg_meaning.specs.Values.{Value}
use Rattle.dg_meaning.specs.Words.{first_line, behind_first, letters_of, spellings_of, is_number, number_behind, spelled_value, spelled_list}
use Rattle.dg_meaning.specs.inside.Unifiers.{binding_of}
use Rattle.z_lang.specs.State.{Program}
use Rattle.z_lang.specs.Runs.{ActsRun as Runs, Returns, Stops}
use Rattle.z_lang.specs.Standing.{IsKept}
use Rattle.dg_rt.specs.declared.typing.TheConstants.{READ_LINE_ACTS, SPELLED_NUMBER_ACTS, SPELLED_ACTS, LINE_CELLS_ACTS, WRITTEN_VALUE_ACTS, BREAK_LINE_ACTS}
use Rattle.dg_rt.specs.Cells.{at_cell, Holds}
use Rattle.dg_rt.specs.Areas.{heap_at, line_at, fixed_end, heap_reg, lines_reg, spaces_reg, from_reg, fill_reg, state}
use Rattle.dg_rt.specs.Back.{Grown}
use Rattle.dg_rt.specs.Charges.{MeetsLimit}
use Rattle.dg_rt.specs.Copies.{words_of, Row}
use Rattle.dg_rt.specs.CopiesIn.{HasCaptures}
use Rattle.dg_rt.specs.Dictionary.{HasSpellings}
use Rattle.dg_rt.specs.Laying.{Formed}
use Rattle.dg_rt.specs.Operands.{no_value}
use Rattle.dg_rt.specs.RunTime.{HasRunTime}
use Rattle.dg_rt.specs.Shapes.{Shape, IsShape, ArePrinted, Shows, Stands}

-- ## A line is read

-- The first word of a row of letters, the last 200 of what every story has. What they spell is written from the line on.
abbrev pub row_at : ℕ
row_at = 15745

-- A typed line was taken, and its letters stand in a row; their number is answered. From the static part on memory is still the story's.
pub record ReadsLine (p : Program) (story : List ℕ) (f w : ℕ) (memory output : List ℕ) (drawn byte : ℕ) (typed : List ℕ)
    (cells : ℕ → ℕ) : Type 0 where
  pub memory' : List ℕ
  pub cells' : ℕ → ℕ
  pub locals' : List ℕ
  pub holds : Holds p.world.layout memory' cells'
  pub kept : IsKept p.world.layout.base story memory'
  pub row : Row cells' row_at (letters_of (first_line (byte ∷ typed)))
  pub printed : ArePrinted (letters_of (first_line (byte ∷ typed)))
  pub others : (k : ℕ) → (line_at ≤ k → fixed_end ≤ k) → cells' k ≡ cells k
  pub count : ℕ
  pub few : count ≤ 80 * length (letters_of (first_line (byte ∷ typed))) + 320
  pub runs : Runs p f w READ_LINE_ACTS READ_LINE_ACTS (state memory (0 ∷ 0 ∷ 0 ∷ 0 ∷ []) (byte ∷ typed) drawn output)
      (Returns (length (letters_of (first_line (byte ∷ typed))))) (state memory' locals' (behind_first (byte ∷ typed)) drawn output) count

-- Where no byte is left, the run ends.
pub record EndsInput (p : Program) (f w : ℕ) (memory output : List ℕ) (drawn : ℕ) : Type 0 where
  pub memory' : List ℕ
  pub locals' : List ℕ
  pub count : ℕ
  pub few : count ≤ 310
  pub runs : Runs p f w READ_LINE_ACTS READ_LINE_ACTS (state memory (0 ∷ 0 ∷ 0 ∷ 0 ∷ []) [] drawn output) (Stops AtInput)
      (state memory' locals' [] drawn output) count

-- So it is in any state.
pub record LinesWork : Type 0 where
  pub reads : (p : Program) → HasRunTime p → (story : List ℕ) (f w : ℕ) → 1 ≤ f → 1 ≤ w → (memory output : List ℕ)
      (drawn byte : ℕ) (typed : List ℕ)
      (cells : ℕ → ℕ) → Holds p.world.layout memory cells → IsKept p.world.layout.base story memory →
      ReadsLine p story f w memory output drawn byte typed cells
  pub ends : (p : Program) → HasRunTime p → (f w : ℕ) (memory output : List ℕ) (drawn : ℕ) (cells : ℕ → ℕ) →
      Holds p.world.layout memory cells → EndsInput p f w memory output drawn

-- ## What letters spell

-- The number that a spelling is.
abbrev pub number_spelled : List ℕ → ℕ
number_spelled letters = if is_number letters then number_behind 0 letters else no_value

-- That number was answered, and nothing was changed.
pub record TellsNumber (p : Program) (f w : ℕ) (memory typed output : List ℕ) (drawn k : ℕ) (letters : List ℕ) : Type 0 where
  pub locals' : List ℕ
  pub count : ℕ
  pub few : count ≤ 11 * length letters + 3
  pub runs : Runs p f w SPELLED_NUMBER_ACTS SPELLED_NUMBER_ACTS
      (state memory (at_cell k ∷ at_cell (k + length letters) ∷ 0 ∷ 0 ∷ []) typed drawn output) (Returns (number_spelled letters))
      (state memory locals' typed drawn output) count

-- The cells of a value were written from a place on, and the address behind them is answered; every other word is the same.
pub record WritesCells (p : Program) (story : List ℕ) (v : Value) (cells : ℕ → ℕ) (o : ℕ) (leads : ℕ → List ℕ → List ℕ → ℕ → Type 0)
    (most : ℕ) : Type 0 where
  pub memory' : List ℕ
  pub cells' : ℕ → ℕ
  pub locals' : List ℕ
  pub holds : Holds p.world.layout memory' cells'
  pub kept : IsKept p.world.layout.base story memory'
  pub row : Row cells' o (words_of v)
  pub others : (k : ℕ) → (o ≤ k → o + length (words_of v) ≤ k) → cells' k ≡ cells k
  pub count : ℕ
  pub few : count ≤ most
  pub runs : leads (at_cell (o + length (words_of v))) memory' locals' count

-- So it is with what letters spell that stand in a row behind that place.
abbrev pub SpelledWorks : Type 0
SpelledWorks = (p : Program) → HasRunTime p → (story : List ℕ) (words : List (List ℕ)) → HasSpellings p story words → (f w : ℕ) →
    3 ≤ f → 13 ≤ w →
    (memory typed output : List ℕ) (drawn : ℕ) (cells : ℕ → ℕ) → Holds p.world.layout memory cells → IsKept p.world.layout.base story memory →
    (k o : ℕ) (letters : List ℕ) → 0 < length letters → length letters ≤ 200 → line_at ≤ o → o + 1 ≤ k →
    k + length letters ≤ fixed_end → Row cells k letters →
    WritesCells p story (spelled_value words letters) cells o (λ x memory' locals' count.
    Runs p f w SPELLED_ACTS SPELLED_ACTS (state memory (at_cell k ∷ at_cell (k + length letters) ∷ at_cell o ∷ 0 ∷ []) typed drawn output) (Returns x)
    (state memory' locals' typed drawn output) count) (length words * (31 * length letters + 16) + (50 * length letters + 40))

-- So it is with the list of what a row of letters spells.
abbrev pub LineCellsWork : Type 0
LineCellsWork = (p : Program) → HasRunTime p → (story : List ℕ) (words : List (List ℕ)) → HasSpellings p story words → (f w : ℕ) →
    5 ≤ f → 20 ≤ w →
    (memory typed output : List ℕ) (drawn : ℕ) (cells : ℕ → ℕ) → Holds p.world.layout memory cells → IsKept p.world.layout.base story memory →
    (letters : List ℕ) → length letters ≤ 200 → Row cells row_at letters →
    WritesCells p story (spelled_list words (spellings_of letters)) cells line_at (λ x memory' locals' count.
    Runs p f w LINE_CELLS_ACTS LINE_CELLS_ACTS (state memory (length letters ∷ 0 ∷ 0 ∷ 0 ∷ 0 ∷ []) typed drawn output) (Returns x)
    (state memory' locals' typed drawn output) count) (150 * (length letters * (1 + length words)) + 20)

-- ## Values that were written

-- The value whose cells were written was laid on the heap, and memory stands for it and for what it stood for, in a grown shape.
pub record LaysWritten (p : Program) (f w : ℕ) (memory typed output : List ℕ) (drawn : ℕ) (cells : ℕ → ℕ) (sh : Shape) (S : Substitution)
    (v : Value) (most : ℕ) : Type 0 where
  pub memory' : List ℕ
  pub cells' : ℕ → ℕ
  pub locals' : List ℕ
  pub holds : Holds p.world.layout memory' cells'
  pub sh' : Shape
  pub top : sh'.top ≡ sh.top + copy_cells v
  pub vars : sh'.vars ≡ sh.vars
  pub grown : Grown sh sh'
  pub boxes : (k : ℕ) (u : Value) → sh'.box k ≡ Some u → k < sh.top → sh.box k ≡ Some u
  pub shape : IsShape sh'
  pub low : (n : ℕ) → n < sh'.vars → sh'.place n < sh'.top
  pub stands : Stands sh' cells' S
  pub word : ℕ
  pub shows : Shows sh' word v
  pub heap : cells' heap_reg ≡ cells heap_reg + copy_cells v
  pub others : (k : ℕ) → k ≢ heap_reg → k ≢ from_reg → k ≢ fill_reg →
      (heap_at + sh.top ≤ k → heap_at + (sh.top + copy_cells v) ≤ k) → cells' k ≡ cells k
  pub count : ℕ
  pub few : count ≤ most
  pub runs : Runs p f w WRITTEN_VALUE_ACTS WRITTEN_VALUE_ACTS (state memory (at_cell (line_at + length (words_of v)) ∷ 0 ∷ []) typed drawn output)
      (Returns word) (state memory' locals' typed drawn output) count

-- A value without variables whose cells stand from the line on.
pub record IsWritten (p : Program) (story : List ℕ) (captures : ℕ → ℕ) (memory : List ℕ) (cells : ℕ → ℕ) (v : Value) : Type 0 where
  pub told : HasCaptures p story captures
  pub holds : Holds p.world.layout memory cells
  pub kept : IsKept p.world.layout.base story memory
  pub formed : Formed captures v
  pub free : vars_in v ≡ 0
  pub small : copy_cells v ≤ 20000
  pub row : Row cells line_at (words_of v)
  pub within : line_at + length (words_of v) ≤ fixed_end

-- So it is where there is room for it, with 5 words a node on the player's stack; else the heap's limit is met.
pub record WrittenWorks : Type 0 where
  pub lays : (p : Program) (story : List ℕ) (sh : Shape) (f w : ℕ) (memory typed output : List ℕ) (drawn : ℕ) (cells : ℕ → ℕ) (v : Value) →
      IsWritten p story sh.captures memory cells v → size v < f → 5 + 5 * size v ≤ w → IsShape sh →
      ((n : ℕ) → n < sh.vars → sh.place n < sh.top) → (S : Substitution) → Stands sh cells S →
      ((n : ℕ) → sh.vars ≤ n → binding_of n S ≡ None) → cells heap_reg ≡ sh.top → sh.top + copy_cells v ≤ 10000 →
      LaysWritten p f w memory typed output drawn cells sh S v (38 * size v + 8 * letters_in v + 12)
  pub meets : (p : Program) (story : List ℕ) (captures : ℕ → ℕ) (f w : ℕ) (memory typed output : List ℕ) (drawn : ℕ)
      (cells : ℕ → ℕ) (v : Value) →
      IsWritten p story captures memory cells v → 2 ≤ f → 4 ≤ w → cells heap_reg ≤ 10000 → 10000 < cells heap_reg + copy_cells v →
      MeetsLimit p f w WRITTEN_VALUE_ACTS memory (at_cell (line_at + length (words_of v)) ∷ 0 ∷ []) typed output drawn cells (14 * size v + 8)

-- ## The text

-- A line breaks the text, unless a paragraph does, and the spaces that were counted are dropped.
pub record BreaksLine (p : Program) (f w : ℕ) (memory typed output : List ℕ) (drawn : ℕ) (cells : ℕ → ℕ) : Type 0 where
  pub memory' : List ℕ
  pub cells' : ℕ → ℕ
  pub holds : Holds p.world.layout memory' cells'
  pub lines : cells' lines_reg ≡ (if cells lines_reg == 0 then 1 else cells lines_reg)
  pub spaces : cells' spaces_reg ≡ 0
  pub others : (k : ℕ) → k ≢ lines_reg → k ≢ spaces_reg → cells' k ≡ cells k
  pub count : ℕ
  pub few : count ≤ 4
  pub runs : Runs p f w BREAK_LINE_ACTS BREAK_LINE_ACTS (state memory [] typed drawn output) (Returns 0) (state memory' [] typed drawn output) count

-- So it does in any state.
abbrev pub BreakWorks : Type 0
BreakWorks = (p : Program) → HasRunTime p → (f w : ℕ) (memory typed output : List ℕ) (drawn : ℕ) (cells : ℕ → ℕ) →
    Holds p.world.layout memory cells → BreaksLine p f w memory typed output drawn cells
