-- What holds of variables and bindings along a path. Hold it against docs/LANGUAGE.md, where it says when two values unify.
use Rattle.std.specs.Prelude.{ℕ, ◌≤◌, max, List, [], ◌∷◌, Option}
use Rattle.dg_base.specs.declared.program.Goal.{Goal, out-Goal}
use Rattle.dg_meaning.specs.Values.{Value}
use Rattle.dg_meaning.specs.inside.Substitutions.{IsSubstitution, Extends}
use Rattle.dg_meaning.specs.Unify.{top, top_of_pairs}
use Rattle.dg_meaning.specs.World.{Game, World}
use Rattle.dg_meaning.specs.Path.{Step, Do, Keep, Registers, Path, Branch, Enter, Clash, TakeOut, Finds, Move, GoesOn, Outcome, Moves, Chooses}
use Rattle.dg_meaning.specs.Moves.{path_of, begins, move}
use Rattle.dg_meaning.specs.Transcript.{start_path}

-- ## Variables

-- A number above each variable of some values.
abbrev pub top_of_values : List Value → ℕ
top_of_values [] = 0
top_of_values (v ∷ vs) = max (top v) (top_of_values vs)

-- The values that a step holds.
abbrev pub values_held : Step → List Value
values_held (Do goal env t) = env
values_held (Keep t term env) = env
values_held step = []

-- A number above each variable of some steps.
abbrev pub top_of_steps : List Step → ℕ
top_of_steps [] = 0
top_of_steps (s ∷ steps) = max (top_of_values (values_held s)) (top_of_steps steps)

-- The bindings of a path are a substitution, and each variable in them and in the steps has been made.
pub record IsBound (path : Path) : Type 0 where
  pub sound : IsSubstitution path.registers.bound
  pub bindings : top_of_pairs path.registers.bound ≤ path.registers.next_var
  pub steps : top_of_steps path.steps ≤ path.registers.next_var

-- ## Along a path

-- Bindings were only added, in front, and variables only made.
pub record BindsOn (old new : Registers) : Type 0 where
  pub bindings : Extends old.bound new.bound
  pub variables : old.next_var ≤ new.next_var

-- So it is at the beginning of a path, whose bindings are a substitution.
pub record IsBoundBehind (r : Registers) (path : Path) : Type 0 where
  pub binds : BindsOn r path.registers
  pub is : IsBound path

-- So it is with a branch, whose values have variables that have been made.
abbrev pub BranchBinds : Registers → Branch → Type 0
BranchBinds r (Enter path work) = IsBoundBehind r path
BranchBinds r (Clash s work) = BindsOn r s
BranchBinds r (TakeOut t whole into path) = IsBoundBehind r path × (top into ≤ path.registers.next_var)
BranchBinds r (Finds place o args path) = IsBoundBehind r path × (top_of_values args ≤ path.registers.next_var)

-- So it is with each of these branches.
abbrev pub BranchesBind : Registers → List Branch → Type 0
BranchesBind r [] = Unit {0}
BranchesBind r (b ∷ bs) = BranchBinds r b × BranchesBind r bs

-- So it is behind a move.
abbrev pub MoveBinds : Registers → Move → Type 0
MoveBinds r (GoesOn path w) = IsBoundBehind r path
MoveBinds r m = Unit {0}

-- So it is behind a goal.
abbrev pub OutcomeBinds : Registers → Outcome → Type 0
OutcomeBinds r (Moves m) = MoveBinds r m
OutcomeBinds r (Chooses k t b bs w) = BranchBinds r b × BranchesBind r bs

-- From the start on, the bindings of a path are a substitution of variables that have been made, to which each goal and each branch only adds.
pub record BindsAlong : Type 0 where
  -- Nothing is bound at the start.
  pub starts : (g : Game) → IsBound (start_path g)
  -- A goal binds only more.
  pub takes : (g : Game) (x : Goal) (env : List Value) (t : ℕ) (steps : List Step) (r : Registers) (w : World) →
      IsBound (path_of (Do x env t ∷ steps) r) → OutcomeBinds r (move g (out-Goal x) env t steps r w)
  -- The beginning of a branch binds only more.
  pub begins_on : (r : Registers) (b : Branch) (w : World) → BranchBinds r b → MoveBinds r (begins b w)
  -- A mark that is passed binds nothing.
  pub passes : (s : Step) (steps : List Step) (r : Registers) (outer : Option ℕ) → IsBound (path_of (s ∷ steps) r) →
      IsBound (path_of steps (record r { stoppable = outer }))
