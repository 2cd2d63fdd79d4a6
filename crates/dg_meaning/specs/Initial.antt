-- How a flag or a variable starts whose predicate has rules: by a search of its own, over the program in which these rules stand, every place starts bare,
-- and one more place stands behind the others, for what is answered. Hold it against the Dialog manual on the state of the world, where it says how a
-- flag and a variable start.
use Rattle.std.specs.Prelude.{◌≡◌, ◌<◌, ◌⊎◌, ◌-◌, ℕ, List, [], ◌∷◌, ◌++◌, Option, Some, None, Bool, true, false, length, if◌then◌else◌}
use Rattle.dg_base.specs.declared.program.CoreProgram.{CoreProgram}
use Rattle.dg_base.specs.declared.program.Goal.{Goal}
use Rattle.dg_base.specs.declared.program.Goal.TheVariants.{Ask, Now}
use Rattle.dg_base.specs.declared.program.Term.{Term}
use Rattle.dg_base.specs.declared.program.Term.TheVariants.{Object, Var}
use Rattle.dg_base.specs.declared.run.Ending.TheVariants.{Done, StepLimit}
use Rattle.dg_meaning.specs.Values.{Value}
use Rattle.dg_meaning.specs.Facts.{value_at}
use Rattle.dg_meaning.specs.World.{Game}
use Rattle.dg_meaning.specs.Transcript.{Run, run_of, start_world, asking_path}
use Rattle.dg_meaning.specs.Search.{search}

-- What is asked: a predicate, of an object where its place is one of objects, and for a value where its place has one.
pub record Question : Type 0 where
  pub pred : ℕ
  pub object : Option ℕ
  pub value : Bool

-- The object that is asked of, as the arguments in front.
abbrev pub object_terms : Option ℕ → List Term
object_terms None = []
object_terms (Some o) = Object o ∷ []

-- The new variable that is asked for, as the arguments behind.
abbrev pub value_terms : Bool → List Term
value_terms false = []
value_terms true = Var 0 ∷ []

-- How many new variables the question has.
abbrev pub new_in : Question → ℕ
new_in q = if q.value then 1 else 0

-- The arguments of the question.
abbrev pub terms_in : Question → List Term
terms_in q = object_terms q.object ++ value_terms q.value

-- The query.
abbrev pub asked : Question → Goal
asked q = Ask q.pred (terms_in q) false

-- The change of the last place by what was answered.
abbrev pub put : CoreProgram → Question → Goal
put program q = Now (length program.places - 1) (terms_in q) true

-- A program that is asked; no quiet goal throws dice.
abbrev pub asking_game : CoreProgram → Game
asking_game program = record { program = program; dice = 0 ∷ [] }

-- The run of these goals, with a budget of n goals.
abbrev pub run_on : CoreProgram → Question → List Goal → ℕ → Run
run_on program q goals n = let g = asking_game program in run_of (search g n (asking_path goals (new_in q)) (start_world g []))

-- The search, with a budget of 10,000 goals.
abbrev pub first_run : CoreProgram → Question → Run
first_run program q = run_on program q (asked q ∷ []) 10000

-- The same, with the change behind its first answer.
abbrev pub second_run : CoreProgram → Question → Run
second_run program q = run_on program q (asked q ∷ put program q ∷ []) 10001

-- A search takes too long that ends at its budget, or counts more than a million on the heap.
abbrev pub IsTooLong : Run → Type 0
IsTooLong r = (r.ending ≡ StepLimit) ⊎ (1000000 < r.world.meters.heap)

-- It has an answer.
abbrev pub HasAnswer : Run → Type 0
HasAnswer r = r.ending ≡ Done

-- The value that was put; none where the answer is no value of the place for answers.
abbrev pub value_put : CoreProgram → Question → Option ℕ → Option Value
value_put program q None = None
value_put program q (Some o) = value_at (second_run program q).world.facts (length program.places - 1) o

-- How a flag or a variable starts: its search takes too long; it is not set; a flag is set; a variable has a value that a per-object variable may have; or
-- it would have another.
pub data Initial : Type 0 where
  TooLong : Initial
  Unset : Initial
  IsSet : Initial
  HasValue : (value : Value) → Initial
  Other : Initial

-- What comes of a search that doesn't take too long.
abbrev pub ComesTo : CoreProgram → Question → Initial → Type 0
ComesTo program q TooLong = ⊥
ComesTo program q Unset = HasAnswer (first_run program q) → ⊥
ComesTo program q IsSet = HasAnswer (first_run program q) × (q.value ≡ false)
ComesTo program q (HasValue v) = HasAnswer (first_run program q) × (q.value ≡ true) × (value_put program q q.object ≡ Some v)
ComesTo program q Other = HasAnswer (first_run program q) × (q.value ≡ true) × (value_put program q q.object ≡ None)

-- What comes of the search for a question.
abbrev pub IsInitial : CoreProgram → Question → Initial → Type 0
IsInitial program q TooLong = IsTooLong (first_run program q)
IsInitial program q start = (IsTooLong (first_run program q) → ⊥) × ComesTo program q start
