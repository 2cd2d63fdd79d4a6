-- What the terms of a program become in a store. Hold it against docs/LANGUAGE.md, where it says what a value is and what a limit counts.
use Rattle.std.specs.Prelude.{◌≡◌, ℕ, ◌+◌, ◌*◌, ◌<◌, ◌≤◌, ◌++◌, List, [], ◌∷◌, Option, Some, None, map, length}
use Rattle.std.specs.List.{All}
use Rattle.dg_base.specs.declared.program.ClosureBody.{ClosureBody}
use Rattle.dg_base.specs.declared.program.Term.{Term}
use Rattle.dg_base.specs.declared.program.Term.TheOpen as term
use Rattle.dg_base.specs.declared.program.CoreProgram.{CoreProgram}
use Rattle.dg_meaning.specs.Values.{Value, pair, value_of}
use Rattle.dg_meaning.specs.Cells.{cells}
use Rattle.dg_meaning.specs.Moves.{new_vars}
use Rattle.dg_unify.specs.Store.{Store, told, Holds, Kept, Charged}
use Rattle.dg_unify.specs.declared.bindings.Ref.{Ref}
use Rattle.dg_unify.specs.declared.bindings.Full.{Full}
use Rattle.dg_unify.specs.declared.bindings.Full.TheVariants as full

-- A call that takes n of the heap, one lump after another, came to no end: the heap is full only where all of them would pass its limit, and the
-- trail never is.
abbrev pub Overflows : ℕ → Store → Full → Type 0
Overflows n old full.Heap = old.heap_limit < old.state.heap + n
Overflows n old full.Trail = ⊥
Overflows n old full.OutOfMemory = Unit {0}

-- Two terms were written, one after the other, with these values among those of variables.
pub record BothMade (program : CoreProgram) (a b : Term) (env : List Value) (old new : Store) (left right : Ref) : Type 0 where
  pub kept : Kept old new
  pub state : new.state ≡ record old.state { heap = old.state.heap + cells program (a ∷ b ∷ []) }
  pub left_is : told new left ≡ value_of program env a
  pub right_is : told new right ≡ value_of program env b
  pub left_in : Holds new left
  pub right_in : Holds new right

-- Three terms were written, one after another.
pub record ThreeMade (program : CoreProgram) (a b c : Term) (env : List Value) (old new : Store) (refs : Ref × Ref × Ref) : Type 0 where
  pub kept : Kept old new
  pub state : new.state ≡ record old.state { heap = old.state.heap + cells program (a ∷ b ∷ c ∷ []) }
  pub first_is : told new refs.0 ≡ value_of program env a
  pub second_is : told new refs.1 ≡ value_of program env b
  pub third_is : told new refs.2 ≡ value_of program env c
  pub first_in : Holds new refs.0
  pub second_in : Holds new refs.1
  pub third_in : Holds new refs.2

-- ## Lists of Refs

-- Refs of these values were put behind a list.
pub record Appended (s : Store) (vs : List Value) (before behind : List Ref) : Type 0 where
  pub made : List Ref
  pub is : behind ≡ before ++ made
  pub hold : All (Holds s) made
  pub values : map (told s) made ≡ vs

-- Refs of these values, which took n of the heap, were put behind a list.
pub record Written (n : ℕ) (vs : List Value) (old new : Store) (before behind : List Ref) : Type 0 where
  pub charged : Charged n old new
  pub appended : Appended new vs before behind

-- So many new variables were put behind a list.
pub record MadeVars (n : ℕ) (old new : Store) (before behind : List Ref) : Type 0 where
  pub fits : old.state.heap + n ≤ old.heap_limit
  pub state : new.state ≡ record old.state { vars = old.state.vars + n; heap = old.state.heap + n }
  pub appended : Appended new (new_vars n old.state.vars) before behind

-- ## Closures

-- The variables that a closure captures, where there is one.
abbrev pub captured_in : Option ClosureBody → List ℕ
captured_in None = []
captured_in (Some closure) = closure.captured

-- ## Lists in a term

-- No pair stands at the top of a term.
abbrev pub IsNoPair : term.Term-F Term → Type 0
IsNoPair (term.Pair head tail) = ⊥
IsNoPair other = Unit {0}

-- The list of these elements with a tail.
abbrev pub listed : List Value → Value → Value
listed [] end = end
listed (v ∷ vs) end = pair v (listed vs end)

-- The first elements of a term were put behind a list, and the tail behind the last of these is left.
pub record HeadsWritten (program : CoreProgram) (env : List Value) (term last : Term) (old new : Store) (before behind : List Ref) : Type 0 where
  pub count : ℕ
  pub heads : List Value
  pub written : Written count heads old new before behind
  pub value : value_of program env term ≡ listed heads (value_of program env last)
  pub cells_are : cells program (term ∷ []) ≡ count + 3 * length heads + cells program (last ∷ [])
