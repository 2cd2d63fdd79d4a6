-- What a search goes along, what may come of a goal, and what a search answers. Hold it against the Dialog manual, chapters "Choice points" and "Control flow".
use Rattle.std.specs.Prelude.{ℕ, List, Option, Bool}
use Rattle.dg_base.specs.declared.program.Term.{Term}
use Rattle.dg_base.specs.declared.program.Goal.{Goal}
use Rattle.dg_base.specs.declared.run.Ending.{Ending}
use Rattle.dg_meaning.specs.Values.{Value}
use Rattle.dg_meaning.specs.Substitutions.{Substitution}
use Rattle.dg_meaning.specs.Unify.{Equations}
use Rattle.dg_meaning.specs.World.{World}

-- A goal with the values of the variables of its rule and the tag of the choice that its (just) cuts to, or a mark. The marks: a rule of a predicate
-- was answered, choices back to a tag are cut, cut and then fail, fail, gather the value of a term and fail, leave a stoppable part with what is
-- innermost outside it.
pub data Step : Type 0 where
  Do : (goal : Goal) → (env : List Value) → (tag : ℕ) → Step
  Answers : (pred : ℕ) → Step
  Cut : (tag : ℕ) → Step
  Refuse : (tag : ℕ) → Step
  Back : Step
  Keep : (tag : ℕ) → (term : Term) → (env : List Value) → Step
  Leave : (tag : ℕ) → (outer : Option ℕ) → Step

-- What backtracking takes back: the tag of the next choice (an older choice has a smaller one), the innermost stoppable part, what variables are
-- bound to, the number of the next variable (an older variable has a smaller one), and the counts of heap and trail.
pub record Registers : Type 0 where
  pub next_tag : ℕ
  pub stoppable : Option ℕ
  pub bound : Substitution
  pub next_var : ℕ
  pub heap : ℕ
  pub trail : ℕ

-- The steps left, and the registers.
pub record Path : Type 0 where
  pub steps : List Step
  pub registers : Registers

-- A failure, a failure that ends all choices back to a tag, a stop to a stoppable part with the oldest choice that was cut on the way, or an end of the run.
pub data Result : Type 0 where
  Failing : Result
  CutFail : (tag : ℕ) → Result
  StopTo : (tag : ℕ) → (cut : Option ℕ) → Result
  End : (ending : Ending) → Result

-- What a search answers: the goals left of its budget, the world and the result.
pub record Answer : Type 0 where
  pub left : ℕ
  pub world : World
  pub result : Result

-- What a gathering is taken out as: the list of its values, or their sum.
pub data Whole : Type 0 where
  AsList : Whole
  AsSum : Whole

-- A branch of a choice: a path with the work of beginning it, one that has failed, with such work, as soon as these registers were reached, a path at
-- whose beginning a gathering is taken out and unified with a value, or a path at whose beginning it is tested what is set of an object at a place,
-- or, without a place, nothing, before the object and that are unified with these arguments.
pub data Branch : Type 0 where
  Enter : (path : Path) → (work : ℕ) → Branch
  Clash : (registers : Registers) → (work : ℕ) → Branch
  TakeOut : (tag : ℕ) → (whole : Whole) → (into : Value) → (path : Path) → Branch
  Finds : (place : Option ℕ) → (object : ℕ) → (args : List Value) → (path : Path) → Branch

-- A choice without more, one between the rules of a predicate, one whose first branch may be stopped, and one whose first branch gathers.
pub data ChoiceKind : Type 0 where
  Plain : ChoiceKind
  Rules : (pred : ℕ) → ChoiceKind
  Shield : ChoiceKind
  Gathers : ChoiceKind

-- What comes of what is done at once: the search goes on, has failed, ends, or stops to a stoppable part.
pub data Move : Type 0 where
  GoesOn : (path : Path) → (world : World) → Move
  FailsAt : (world : World) → Move
  EndsAt : (ending : Ending) → (world : World) → Move
  StopsAt : (tag : ℕ) → (world : World) → Move

-- What comes of a goal: a move, or a choice of a tag.
pub data Outcome : Type 0 where
  Moves : (move : Move) → Outcome
  Chooses : (kind : ChoiceKind) → (tag : ℕ) → (first : Branch) → (others : List Branch) → (world : World) → Outcome

-- What is done at once: the search goes on with these steps, or where a test was passed, or where equations agree behind the registers in which their
-- values were made; it ends, has failed, or stops.
pub data Act : Type 0 where
  Goes : (steps : List Step) → (world : World) → Act
  Tests : (passed : Bool) → (world : World) → Act
  Unifies : (made : Registers) → (equations : Equations) → (world : World) → Act
  Ends : (ending : Ending) → (world : World) → Act
  Fails : (world : World) → Act
  Stops : (world : World) → Act

-- What a goal does: something at once, or it offers branches of a choice of some kind.
pub data Effect : Type 0 where
  Acts : (act : Act) → Effect
  Offers : (kind : ChoiceKind) → (branches : List Branch) → (world : World) → Effect
