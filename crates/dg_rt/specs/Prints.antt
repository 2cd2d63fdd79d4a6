-- What the routine does that prints a value. Hold it against docs/LANGUAGE.md, where it says how a value is printed, and dg_meaning/specs/Pieces.antt.
use Rattle.std.specs.Prelude.{◌≡◌, ◌≢◌, ℕ, suc, ◌+◌, ◌*◌, ◌<◌, ◌≤◌, List, [], ◌∷◌, ◌++◌, map, take, Some, false}
use Rattle.dg_base.specs.declared.program.CoreProgram.{CoreProgram}
use Rattle.dg_meaning.specs.Values.{Word, Object, Value}
use Rattle.dg_meaning.specs.Substitutions.{Substitution, resolved, contains}
use Rattle.dg_meaning.specs.Unify.{looks}
use Rattle.dg_meaning.specs.World.{Print, Piece}
use Rattle.dg_meaning.specs.Pieces.{label_piece, pieces}
use Rattle.dg_meaning.specs.Render.{Met, met_from, render_from, characters}
use Rattle.z_model.specs.Flow.{zeros}
use Rattle.z_lang.specs.declared.act.Act.{Act}
use Rattle.z_lang.specs.State.{Program}
use Rattle.z_lang.specs.Runs.{ActsRun as Runs, Returns}
use Rattle.z_lang.specs.Standing.{IsKept}
use Rattle.dg_rt.specs.declared.printing.TheConstants.{PRINT_VALUE_ACTS}
use Rattle.dg_rt.specs.Cells.{Holds}
use Rattle.dg_rt.specs.Areas.{last_reg, lines_reg, spaces_reg, asked_reg, upper_reg, state}
use Rattle.dg_rt.specs.Shapes.{Shape, IsShape, Shows, Stands}
use Rattle.dg_rt.specs.RunTime.{routine_of, HasRunTime}
use Rattle.dg_rt.specs.Gaps.{Meets}
use Rattle.dg_rt.specs.Pieces.{PrintsPiece}

-- ## Pieces one after another

-- Some pieces as what is printed.
abbrev pub all_pieces : List (List ℕ) → List Print
all_pieces ps = map Piece ps

-- Pieces were printed one after another, each with what separates it from the text before, in 20 instructions for each character that appears and so many
-- more; the registers say what the next one meets.
pub record PrintsPieces (p : Program) (f w : ℕ) (body acts : List Act) (memory locals typed output : List ℕ) (drawn : ℕ) (cells : ℕ → ℕ) (m : Met)
    (ps : List (List ℕ)) (most : ℕ) : Type 0 where
  pub memory' : List ℕ
  pub cells' : ℕ → ℕ
  pub locals' : List ℕ
  pub holds : Holds p.world.layout memory' cells'
  pub meets : Meets cells' (met_from m (all_pieces ps))
  pub others : (k : ℕ) → k ≢ last_reg → k ≢ lines_reg → k ≢ spaces_reg → k ≢ asked_reg → k ≢ upper_reg → cells' k ≡ cells k
  pub count : ℕ
  pub few : count ≤ 20 * characters (render_from m (all_pieces ps)) + most
  pub runs : Runs p f w body acts (state memory locals typed drawn output) (Returns 0)
      (state memory' locals' typed drawn (output ++ render_from m (all_pieces ps))) count

-- ## What a program spells

-- The routine at an address prints each of so many pieces by its number, in 20 instructions a character, 3 a space in front of it, and 100, where memory is
-- the story's from its static part on; it may have locals beside that of the number.
pub record SpellsBy (p : Program) (story : List ℕ) (x many : ℕ) (text : ℕ → List ℕ) : Type 0 where
  pub body : List Act
  pub more : ℕ
  pub few : more ≤ 14
  pub there : p.routine_at x ≡ Some (routine_of (suc more) body)
  pub prints : (memory typed output : List ℕ) (drawn n : ℕ) (cells : ℕ → ℕ) → Holds p.world.layout memory cells →
      IsKept p.world.layout.base story memory → n < many → (m : Met) → Meets cells m →
      PrintsPiece p 20 80 body memory (n ∷ take more (0 ∷ 0 ∷ zeros)) typed output drawn cells m (text n) (20 * characters (text n) + 100)

-- One prints the words of a program by their spelling, and one its objects by their names.
pub record Spells (p : Program) (story : List ℕ) (program : CoreProgram) (words objects : ℕ) : Type 0 where
  pub words_are : SpellsBy p story words 8192 (λ n. label_piece program (Word n))
  pub objects_are : SpellsBy p story objects 4096 (λ n. label_piece program (Object n))

-- ## Values

-- A value is printed, resolved: its pieces, in 200 instructions for each node and link of it beside those for characters, with a frame and 4 words a
-- level. The variable n, which isn't in the value, is the one for which a test of containment would look at all of it.
abbrev pub PrintWorks : Type 0
PrintWorks = (p : Program) → HasRunTime p → (story : List ℕ) (program : CoreProgram) (words objects : ℕ) → Spells p story program words objects →
    (memory typed output : List ℕ) (drawn : ℕ) (sh : Shape) → IsShape sh → (cells : ℕ → ℕ) → Holds p.world.layout memory cells →
    IsKept p.world.layout.base story memory → (S : Substitution) → Stands sh cells S → (x : ℕ) (v : Value) → Shows sh x v → (n : ℕ) →
    contains n (resolved S v) ≡ false → (m : Met) → Meets cells m →
    PrintsPieces p 3360 13440 PRINT_VALUE_ACTS PRINT_VALUE_ACTS memory (x ∷ words ∷ objects ∷ 0 ∷ []) typed output drawn cells m
    (pieces program (resolved S v)) (200 * looks S n v)
