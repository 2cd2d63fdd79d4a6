-- What the routines do that test values. Hold it against docs/LANGUAGE.md, "Built-in queries", and dg_meaning/specs/TypeTests.antt and Numbers.antt.
use Rattle.std.specs.Prelude.{◌≡◌, ℕ, ◌+◌, ◌*◌, ◌≤◌, List, [], ◌∷◌, None, Bool, true, false}
use Rattle.dg_base.specs.declared.program.CompareOp.TheVariants.{Less}
use Rattle.dg_base.specs.declared.program.TestKind.{TestKind}
use Rattle.dg_base.specs.declared.program.TestKind.TheVariants as test
use Rattle.dg_meaning.specs.Values.{Value}
use Rattle.dg_meaning.specs.Substitutions.{Substitution, walk, links}
use Rattle.dg_meaning.specs.inside.Unifiers.{binding_of}
use Rattle.dg_meaning.specs.TypeTests.{passes}
use Rattle.dg_meaning.specs.Numbers.{are_in_order}
use Rattle.dg_meaning.specs.Unify.{looks}
use Rattle.z_lang.specs.declared.act.Act.{Act}
use Rattle.z_lang.specs.State.{Program}
use Rattle.z_lang.specs.Runs.{ActsRun as Runs, Returns}
use Rattle.dg_rt.specs.declared.numbers.TheConstants.{FAIL, IF_NUMBER, IF_WORD, IF_UNKNOWN, IF_LIST, IF_EMPTY, IF_NON_EMPTY, IF_BOUND, IF_FULL, IF_UNBOUND}
use Rattle.dg_rt.specs.declared.conditions.TheConstants.{IF_NUMBER_ACTS, IF_WORD_ACTS, IF_UNKNOWN_ACTS, IF_LIST_ACTS, IF_EMPTY_ACTS, IF_NON_EMPTY_ACTS, IF_BOUND_ACTS, IF_FULL_ACTS, IF_UNBOUND_ACTS, IF_LESS_ACTS}
use Rattle.dg_rt.specs.Cells.{Holds}
use Rattle.dg_rt.specs.Areas.{state}
use Rattle.dg_rt.specs.Shapes.{Shape, IsShape, Shows, Stands}
use Rattle.dg_rt.specs.RunTime.{HasRunTime}

-- The routine that comes next: the one behind where a condition holds, else the one that fails.
abbrev pub next_if : Program → Bool → ℕ → ℕ
next_if p true next = next
next_if p false next = p.names.routine FAIL

-- A routine answers which one comes next, in so many instructions at most, and changes nothing.
pub record Decides (p : Program) (f w : ℕ) (acts : List Act) (memory locals typed output : List ℕ) (drawn next : ℕ) (passed : Bool)
    (most : ℕ) : Type 0 where
  pub locals' : List ℕ
  pub count : ℕ
  pub few : count ≤ most
  pub runs : Runs p f w acts acts (state memory locals typed drawn output) (Returns (next_if p passed next))
      (state memory locals' typed drawn output) count

-- ## Tests of what a value is

-- The routine of each test, and its number.
abbrev pub test_acts : TestKind → List Act
test_acts test.Number = IF_NUMBER_ACTS
test_acts test.Word = IF_WORD_ACTS
test_acts test.UnknownWord = IF_UNKNOWN_ACTS
test_acts test.List = IF_LIST_ACTS
test_acts test.Empty = IF_EMPTY_ACTS
test_acts test.NonEmpty = IF_NON_EMPTY_ACTS
test_acts test.Bound = IF_BOUND_ACTS
test_acts test.FullyBound = IF_FULL_ACTS
test_acts test.Unbound = IF_UNBOUND_ACTS

abbrev pub test_number : TestKind → ℕ
test_number test.Number = IF_NUMBER
test_number test.Word = IF_WORD
test_number test.UnknownWord = IF_UNKNOWN
test_number test.List = IF_LIST
test_number test.Empty = IF_EMPTY
test_number test.NonEmpty = IF_NON_EMPTY
test_number test.Bound = IF_BOUND
test_number test.FullyBound = IF_FULL
test_number test.Unbound = IF_UNBOUND

-- The nodes and links that a test looks at, where there are so many variables.
abbrev pub looked_at : TestKind → Substitution → ℕ → Value → ℕ
looked_at test.FullyBound S n v = looks S n v
looked_at kind S n v = 1 + links S v

-- Each decides by what the test says of a value, in 15 instructions for each node and link that it looks at, and 5.
abbrev pub TestsWork : Type 0
TestsWork = (kind : TestKind) (p : Program) → HasRunTime p → (f w : ℕ) → 3336 ≤ f → 10010 ≤ w → (memory typed output : List ℕ) (drawn : ℕ)
    (sh : Shape) → IsShape sh → (cells : ℕ → ℕ) → Holds p.world.layout memory cells → (S : Substitution) → Stands sh cells S →
    ((n : ℕ) → sh.vars ≤ n → binding_of n S ≡ None) → (x next : ℕ) (v : Value) → Shows sh x v →
    Decides p f w (test_acts kind) memory (x ∷ next ∷ []) typed output drawn next (passes S kind v) (15 * looked_at kind S sh.vars v + 5)

-- ## Comparison

-- Whether two values are numbers, the first less than the second, is decided in 5 instructions a link and 24.
abbrev pub OrderWorks : Type 0
OrderWorks = (p : Program) → HasRunTime p → (f w : ℕ) → 2 ≤ f → 8 ≤ w → (memory typed output : List ℕ) (drawn : ℕ) (sh : Shape) →
    IsShape sh → (cells : ℕ → ℕ) → Holds p.world.layout memory cells → (S : Substitution) → Stands sh cells S →
    (x y next : ℕ) (v u : Value) → Shows sh x v → Shows sh y u →
    Decides p f w IF_LESS_ACTS memory (x ∷ y ∷ next ∷ []) typed output drawn next (are_in_order Less (walk S v) (walk S u))
    (5 * links S v + 5 * links S u + 24)
