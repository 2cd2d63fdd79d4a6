-- What the routines do that make a value of the letters of another, for the goals that split and join words. Hold it against docs/LANGUAGE.md, "Built-in
-- queries" on splitting and joining words, and `splits` and `joins` of dg_meaning/specs/Moves.antt.
use Rattle.std.specs.Prelude.{◌≡◌, ◌≢◌, ℕ, ◌+◌, ◌*◌, ◌<◌, ◌≤◌, List, [], ◌∷◌, length, Option, Some, None, ◌==◌, if◌then◌else◌}
use Rattle.dg_meaning.specs.Copies.{copy_cells}
use Rattle.dg_meaning.specs.Letters.{letters_in}
use Rattle.dg_meaning.specs.Substitutions.{Substitution}
use Rattle.dg_meaning.specs.Unify.{size}
use Rattle.dg_meaning.specs.Values.{Value}
use Rattle.dg_meaning.specs.Words.{reading}
use Rattle.dg_meaning.specs.inside.Unifiers.{binding_of}
use Rattle.z_lang.specs.declared.act.Act.{Act}
use Rattle.z_lang.specs.State.{Program}
use Rattle.z_lang.specs.Runs.{ActsRun as Runs, Returns}
use Rattle.z_lang.specs.Standing.{IsKept}
use Rattle.dg_rt.specs.declared.splitting.TheConstants.{MADE_ACTS}
use Rattle.dg_rt.specs.Cells.{Holds}
use Rattle.dg_rt.specs.Areas.{heap_at, trail_at, line_at, fixed_end, heap_reg, clash_reg, from_reg, fill_reg, state}
use Rattle.dg_rt.specs.Back.{Grown}
use Rattle.dg_rt.specs.Charges.{MeetsLimit}
use Rattle.dg_rt.specs.CopiesIn.{HasCaptures}
use Rattle.dg_rt.specs.Dictionary.{HasSpellings}
use Rattle.dg_rt.specs.Operands.{no_value}
use Rattle.dg_rt.specs.RunTime.{HasRunTime}
use Rattle.dg_rt.specs.Shapes.{Shape, IsShape, Shows, Stands}

-- ## What is given

-- A word shows a value in memory that stands for a substitution, in a story that tells what closures capture and has these words.
pub record IsGiven (p : Program) (story : List ℕ) (words : List (List ℕ)) (memory : List ℕ) (cells : ℕ → ℕ) (sh : Shape)
    (S : Substitution) (x : ℕ)
    (v : Value) : Type 0 where
  pub told : HasCaptures p story sh.captures
  pub spelled : HasSpellings p story words
  pub holds : Holds p.world.layout memory cells
  pub kept : IsKept p.world.layout.base story memory
  pub shape : IsShape sh
  pub low : (n : ℕ) → n < sh.vars → sh.place n < sh.top
  pub stands : Stands sh cells S
  pub known : (n : ℕ) → sh.vars ≤ n → binding_of n S ≡ None
  pub heap : cells heap_reg ≡ sh.top
  pub shows : Shows sh x v

-- ## What comes of it

-- Nothing was made: no value is answered, and nothing was changed but the words of typed lines.
pub record LaysNone (p : Program) (f w : ℕ) (acts : List Act) (memory locals typed output : List ℕ) (drawn : ℕ) (cells : ℕ → ℕ)
    (most : ℕ) : Type 0 where
  pub memory' : List ℕ
  pub cells' : ℕ → ℕ
  pub locals' : List ℕ
  pub holds : Holds p.world.layout memory' cells'
  pub others : (k : ℕ) → (line_at ≤ k → fixed_end ≤ k) → cells' k ≡ cells k
  pub count : ℕ
  pub few : count ≤ most
  pub runs : Runs p f w acts acts (state memory locals typed drawn output) (Returns no_value) (state memory' locals' typed drawn output) count

-- A value was laid on the heap, and memory stands for it and for what it stood for, in a grown shape.
pub record LaysOn (p : Program) (f w : ℕ) (acts : List Act) (memory locals typed output : List ℕ) (drawn : ℕ) (cells : ℕ → ℕ) (sh : Shape)
    (S : Substitution) (v : Value) (most : ℕ) : Type 0 where
  pub memory' : List ℕ
  pub cells' : ℕ → ℕ
  pub locals' : List ℕ
  pub holds : Holds p.world.layout memory' cells'
  pub sh' : Shape
  pub top : sh'.top ≡ sh.top + copy_cells v
  pub vars : sh'.vars ≡ sh.vars
  pub grown : Grown sh sh'
  pub boxes : (k : ℕ) (u : Value) → sh'.box k ≡ Some u → k < sh.top → sh.box k ≡ Some u
  pub shape : IsShape sh'
  pub low : (n : ℕ) → n < sh'.vars → sh'.place n < sh'.top
  pub stands : Stands sh' cells' S
  pub word : ℕ
  pub shows : Shows sh' word v
  pub heap : cells' heap_reg ≡ sh.top + copy_cells v
  pub others : (k : ℕ) → k ≢ heap_reg → k ≢ from_reg → k ≢ fill_reg → (heap_at + sh.top ≤ k → trail_at ≤ k) →
      (line_at ≤ k → fixed_end ≤ k) →
      cells' k ≡ cells k
  pub count : ℕ
  pub few : count ≤ most
  pub runs : Runs p f w acts acts (state memory locals typed drawn output) (Returns word) (state memory' locals' typed drawn output) count

-- ## The law

-- What it takes at most to make a value of letters and to lay it, where a program has these words.
abbrev pub making_most : List (List ℕ) → List ℕ → Value → ℕ
making_most words letters v = 150 * reading words (length letters) + 38 * size v + 8 * letters_in v

-- Acts, with these locals behind the first, make a value of the letters of any value that is given, where it has letters, and lay it where there is room for
-- it, else the heap's limit is met; all that within so many frames and words of the player's stack, and in so many instructions for looking at the value.
pub record MakesOfLetters (acts : List Act) (locals : List ℕ) (frames room : ℕ) (Fits : Substitution → Value → Type 0)
    (letters_of : List (List ℕ) → Substitution → Value → Option (List ℕ)) (spells : List (List ℕ) → List ℕ → Value)
    (looks : Substitution → Value → ℕ) : Type 0 where
  pub none : (p : Program) (story : List ℕ) (words : List (List ℕ)) (f w : ℕ) → frames ≤ f → room ≤ w →
      (memory typed output : List ℕ) (drawn : ℕ)
      (cells : ℕ → ℕ) (sh : Shape) (S : Substitution) (x : ℕ) (v : Value) → IsGiven p story words memory cells sh S x v → Fits S v →
      letters_of words S v ≡ None → LaysNone p f w acts memory (x ∷ locals) typed output drawn cells (looks S v)
  pub lays : (p : Program) (story : List ℕ) (words : List (List ℕ)) (f w : ℕ) → frames ≤ f → room ≤ w →
      (memory typed output : List ℕ) (drawn : ℕ)
      (cells : ℕ → ℕ) (sh : Shape) (S : Substitution) (x : ℕ) (v : Value) → IsGiven p story words memory cells sh S x v → Fits S v →
      (letters : List ℕ) → letters_of words S v ≡ Some letters → sh.top + copy_cells (spells words letters) ≤ 10000 →
      LaysOn p f w acts memory (x ∷ locals) typed output drawn cells sh S (spells words letters)
      (looks S v + making_most words letters (spells words letters))
  pub meets : (p : Program) (story : List ℕ) (words : List (List ℕ)) (f w : ℕ) → frames ≤ f → room ≤ w →
      (memory typed output : List ℕ) (drawn : ℕ)
      (cells : ℕ → ℕ) (sh : Shape) (S : Substitution) (x : ℕ) (v : Value) → IsGiven p story words memory cells sh S x v → Fits S v →
      (letters : List ℕ) → letters_of words S v ≡ Some letters → 10000 < sh.top + copy_cells (spells words letters) →
      MeetsLimit p f w acts memory (x ∷ locals) typed output drawn cells (looks S v + making_most words letters (spells words letters))

-- ## What a goal takes it for

-- The register of clashes says whether a value was made, and its word is answered again.
pub record TellsMade (p : Program) (f w : ℕ) (memory typed output : List ℕ) (drawn x : ℕ) (cells : ℕ → ℕ) : Type 0 where
  pub memory' : List ℕ
  pub cells' : ℕ → ℕ
  pub holds : Holds p.world.layout memory' cells'
  pub clash : cells' clash_reg ≡ (if x == no_value then 1 else 0)
  pub others : (k : ℕ) → k ≢ clash_reg → cells' k ≡ cells k
  pub count : ℕ
  pub few : count ≤ 4
  pub runs : Runs p f w MADE_ACTS MADE_ACTS (state memory (x ∷ []) typed drawn output) (Returns x) (state memory' (x ∷ []) typed drawn output) count

-- So it is with any word.
abbrev pub MadeWorks : Type 0
MadeWorks = (p : Program) → HasRunTime p → (f w : ℕ) (memory typed output : List ℕ) (drawn x : ℕ) (cells : ℕ → ℕ) →
    Holds p.world.layout memory cells → TellsMade p f w memory typed output drawn x cells
