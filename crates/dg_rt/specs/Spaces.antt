-- What the routine does that asks for so many spaces. Hold it against the Dialog manual, chapter "Output", on (space $), and
-- dg_meaning/specs/Render.antt, where it counts the spaces of a gap.
use Rattle.std.specs.Prelude.{◌≡◌, ◌≢◌, ℕ, ◌+◌, ◌*◌, ◌≤◌, List, [], ◌∷◌, min}
use Rattle.dg_meaning.specs.Values.{Num, Value, Values, Node}
use Rattle.dg_meaning.specs.Substitutions.{Substitution, walk, links}
use Rattle.z_lang.specs.State.{Program}
use Rattle.z_lang.specs.Runs.{ActsRun as Runs, Returns}
use Rattle.dg_rt.specs.declared.numbers.TheConstants.{FAIL}
use Rattle.dg_rt.specs.declared.gaps.TheConstants.{ASK_SPACES_ACTS}
use Rattle.dg_rt.specs.Cells.{Holds}
use Rattle.dg_rt.specs.Areas.{spaces_reg, state}
use Rattle.dg_rt.specs.Shapes.{Shape, IsShape, Shows, Stands}
use Rattle.dg_rt.specs.RunTime.{HasRunTime}
use Rattle.dg_rt.specs.Operands.{no_value, number_word}

-- So many spaces more were asked for, no more than 16,383 in all, and this routine comes next.
pub record AsksSpaces (p : Program) (f w : ℕ) (memory typed output : List ℕ) (drawn x next n : ℕ) (cells : ℕ → ℕ) (most : ℕ) : Type 0 where
  pub memory' : List ℕ
  pub cells' : ℕ → ℕ
  pub locals' : List ℕ
  pub holds : Holds p.world.layout memory' cells'
  pub spaces : cells' spaces_reg ≡ min (cells spaces_reg + n) 16383
  pub others : (k : ℕ) → k ≢ spaces_reg → cells' k ≡ cells k
  pub count : ℕ
  pub few : count ≤ most
  pub runs : Runs p f w ASK_SPACES_ACTS ASK_SPACES_ACTS (state memory (x ∷ next ∷ []) typed drawn output) (Returns next)
      (state memory' locals' typed drawn output) count

-- There was no number: nothing has changed, and the routine that goes back comes next.
pub record HasNoNumber (p : Program) (f w : ℕ) (memory typed output : List ℕ) (drawn x next most : ℕ) : Type 0 where
  pub locals' : List ℕ
  pub count : ℕ
  pub few : count ≤ most
  pub runs : Runs p f w ASK_SPACES_ACTS ASK_SPACES_ACTS (state memory (x ∷ next ∷ []) typed drawn output) (Returns (p.names.routine FAIL))
      (state memory locals' typed drawn output) count

-- So it is by what a value is, looked up, in 5 instructions a link and 15.
pub record SpacesWork : Type 0 where
  pub counts : (p : Program) → HasRunTime p → (f w : ℕ) → 2 ≤ f → 5 ≤ w → (memory typed output : List ℕ) (drawn : ℕ) (sh : Shape) →
      IsShape sh → (cells : ℕ → ℕ) → Holds p.world.layout memory cells → (S : Substitution) → Stands sh cells S → (x next : ℕ)
      (v : Value) → Shows sh x v → (n : ℕ) (parts : Values) → walk S v ≡ Node (Num n) parts → cells spaces_reg ≤ 16383 →
      AsksSpaces p f w memory typed output drawn x next n cells (5 * links S v + 15)
  pub fails : (p : Program) → HasRunTime p → (f w : ℕ) → 2 ≤ f → 5 ≤ w → (memory typed output : List ℕ) (drawn : ℕ) (sh : Shape) →
      IsShape sh → (cells : ℕ → ℕ) → Holds p.world.layout memory cells → (S : Substitution) → Stands sh cells S → (x next : ℕ)
      (v : Value) → Shows sh x v → number_word (walk S v) ≡ no_value →
      HasNoNumber p f w memory typed output drawn x next (5 * links S v + 15)
