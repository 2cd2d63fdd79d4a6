-- What the routines do that say what an operand of a goal is. Hold it against docs/LANGUAGE.md, "The world" and "Built-in queries", where it says what
-- goals take.
use Rattle.std.specs.Prelude.{◌≡◌, ℕ, ◌+◌, ◌*◌, ◌≤◌, List, [], ◌∷◌, false}
use Rattle.dg_meaning.specs.Values.{Num, Word, Object, Nil, Value, Var, Node}
use Rattle.dg_meaning.specs.Substitutions.{Substitution, walk, links, resolved, contains}
use Rattle.dg_meaning.specs.TypeTests.{is_fully_bound}
use Rattle.dg_meaning.specs.Unify.{looks}
use Rattle.z_lang.specs.declared.act.Act.{Act}
use Rattle.z_lang.specs.State.{Program}
use Rattle.z_lang.specs.Runs.{ActsRun as Runs, Returns}
use Rattle.dg_rt.specs.declared.operands.TheConstants.{NUMBER_ACTS, OBJECT_ACTS, SIMPLE_ACTS, FULL_ACTS}
use Rattle.dg_rt.specs.Cells.{Holds, bit}
use Rattle.dg_rt.specs.Areas.{state}
use Rattle.dg_rt.specs.Shapes.{Shape, IsShape, Shows, Stands}
use Rattle.dg_rt.specs.RunTime.{HasRunTime}
use Rattle.dg_rt.specs.Rules.{LabelFits}

-- ## What stands at the top

-- What is answered of a value that isn't as it should be.
abbrev pub no_value : ℕ
no_value = 65535

-- The number that a value is.
abbrev pub number_word : Value → ℕ
number_word (Node (Num n) parts) = n
number_word v = no_value

-- The number of the object that a value is.
abbrev pub object_word : Value → ℕ
object_word (Node (Object n) parts) = n
object_word v = no_value

-- The word of a number, a word of the program, an object or the empty list.
abbrev pub simple_word : Value → ℕ
simple_word (Node (Num n) parts) = n
simple_word (Node (Word n) parts) = 16384 + n
simple_word (Node (Object n) parts) = 24576 + n
simple_word (Node Nil parts) = 28672
simple_word v = no_value

-- What stands at the top of a value is one of a story.
abbrev pub FitsStory : Value → Type 0
FitsStory (Var x) = Unit {0}
FitsStory (Node f parts) = LabelFits f

-- A value was looked up, and this is answered of it, in 5 instructions a link and 8.
pub record LooksUp (p : Program) (f w : ℕ) (acts : List Act) (memory typed output : List ℕ) (drawn x : ℕ) (S : Substitution) (v : Value)
    (answer : Value → ℕ) : Type 0 where
  pub fits : FitsStory (walk S v)
  pub locals' : List ℕ
  pub count : ℕ
  pub few : count ≤ 5 * links S v + 8
  pub runs : Runs p f w acts acts (state memory (x ∷ []) typed drawn output) (Returns (answer (walk S v))) (state memory locals' typed drawn output) count

-- A routine answers so of every value, and changes nothing.
abbrev pub Tells : List Act → (Value → ℕ) → Type 0
Tells acts answer = (p : Program) → HasRunTime p → (f w : ℕ) → 1 ≤ f → 4 ≤ w → (memory typed output : List ℕ) (drawn : ℕ) (sh : Shape) →
    IsShape sh → (cells : ℕ → ℕ) → Holds p.world.layout memory cells → (S : Substitution) → Stands sh cells S → (x : ℕ) (v : Value) →
    Shows sh x v →
    LooksUp p f w acts memory typed output drawn x S v answer

-- The three routines do so.
pub record OperandsWork : Type 0 where
  pub number : Tells NUMBER_ACTS number_word
  pub object : Tells OBJECT_ACTS object_word
  pub simple : Tells SIMPLE_ACTS simple_word

-- ## All of a value

-- Whether a value has no unbound variable was answered, within so many instructions, with a frame and 3 words a level, and nothing was changed.
pub record Fills (p : Program) (f : ℕ) (acts : List Act) (memory typed output : List ℕ) (drawn a b c : ℕ) (S : Substitution) (v : Value)
    (spare most : ℕ) : Type 0 where
  pub locals' : List ℕ
  pub count : ℕ
  pub few : count + spare ≤ most
  pub runs : Runs p f (3 * f) FULL_ACTS acts (state memory (a ∷ b ∷ c ∷ []) typed drawn output) (Returns (bit (is_fully_bound (resolved S v))))
      (state memory locals' typed drawn output) count

-- So it is of every value, within 15 instructions for each node and link of it. The variable n, which isn't in the value, is the one for which a test of
-- containment would look at all of it.
abbrev pub FullWorks : Type 0
FullWorks = (p : Program) → HasRunTime p → (memory typed output : List ℕ) (drawn : ℕ) (sh : Shape) → IsShape sh → (cells : ℕ → ℕ) →
    Holds p.world.layout memory cells → (S : Substitution) → Stands sh cells S → (x : ℕ) (v : Value) → Shows sh x v → (n : ℕ) →
    contains n (resolved S v) ≡ false →
    Fills p 3335 FULL_ACTS memory typed output drawn x 0 0 S v 0 (15 * looks S n v)
