-- What stands in rows of the store, and for which values Refs stand. Hold it against dg_unify/specs/Store.antt.
use Rattle.std.specs.Prelude.{ℕ, suc, ◌+◌, ◌≡◌, ◌++◌, List, [], ◌∷◌, Option, Some, None, length}
use Rattle.dg_meaning.specs.Values.{Value, Values, Nil, Closure, Node, leaf, value_of_var}
use Rattle.dg_meaning.specs.Copies.{values_of}
use Rattle.dg_meaning.specs.Moves.{new_vars}
use Rattle.dg_unify.specs.Store.{Store, Saved, Kept, Charged, IsClosureAt}
use Rattle.dg_unify.specs.declared.bindings.Ref.{Ref}
use Rattle.dg_arena.specs.declared.arena.Arena.{Arena}
use Rattle.dg_arena.specs.Held.{meaning_of, saves_of}
use Rattle.dg_machine.specs.declared.now.Row.{Row}

-- ## Rows

-- Values stand at places in a row.
abbrev pub ValuesAt : Store → ℕ → List Value → Type 0
ValuesAt s at [] = Unit {0}
ValuesAt s at (v ∷ vs) = (s.value (record { 0 = at }) ≡ Some v) × ValuesAt s (suc at) vs

-- These values are captured by the closure of a row, where there is one.
abbrev pub Captures : Store → Option Ref → ℕ → List Value → Type 0
Captures s None n vs = (n ≡ 0) × (vs ≡ [])
Captures s (Some r) n vs = (place : ℕ) × (parts : Values) × IsClosureAt s r place parts × (vs ≡ values_of parts) × (n ≡ length vs)

-- These are the values of a row: those that its closure captures, and then its own.
pub record RowAt (s : Store) (row : Row) (vs : List Value) : Type 0 where
  pub captured : List Value
  pub own : List Value
  pub is : vs ≡ captured ++ own
  pub closure : Captures s row.closure row.captured captured
  pub values : ValuesAt s row.first own
  pub count : length own ≡ row.count

-- This is a variable of a row, or there is none of that number.
abbrev pub IsVarAt : Store → List Value → ℕ → Option Ref → Type 0
IsVarAt s vs n None = leaf Nil ≡ value_of_var vs n
IsVarAt s vs n (Some r) = s.value r ≡ Some (value_of_var vs n)

-- ## Refs

-- These Refs stand for these values.
abbrev pub RefsAt : Store → List Ref → List Value → Type 0
RefsAt s [] [] = Unit {0}
RefsAt s (r ∷ rs) (v ∷ vs) = (s.value r ≡ Some v) × RefsAt s rs vs
RefsAt s rs vs = ⊥

-- They stand for some values.
abbrev pub AreRefs : Store → List Ref → Type 0
AreRefs s rs = (vs : List Value) × RefsAt s rs vs

-- A value is a closure of this place in the program, at this Ref; or it is none.
abbrev pub IsClosureOf : Store → Value → Option (ℕ × Ref) → Type 0
IsClosureOf s w None = (place : ℕ) (parts : Values) → w ≡ Node (Closure place) parts → ⊥
IsClosureOf s w (Some found) = (parts : Values) × (w ≡ Node (Closure found.0) parts) × IsClosureAt s found.1 found.0 parts

-- ## What calls do to the store

-- What stood for a value stands for it still, and the marks that stood stand.
pub record Keeps (old new : Arena) : Type 0 where
  pub kept : Kept (meaning_of old) (meaning_of new)
  pub saved : (ms : List Saved) → saves_of old ms → saves_of new ms

-- The same, and the state is as it was.
pub record Stays (old new : Arena) : Type 0 where
  pub keeps : Keeps old new
  pub state : (meaning_of new).state ≡ (meaning_of old).state

-- Refs of these values stand in a register, and so many cells were taken.
pub record Puts (n : ℕ) (vs : List Value) (old new : Store) (refs : List Ref) : Type 0 where
  pub charged : Charged n old new
  pub refs_are : RefsAt new refs vs

-- So many new variables stand in a row, and each took one of the heap.
pub record MadeRow (n : ℕ) (old new : Store) (row : Row) : Type 0 where
  pub state : new.state ≡ record old.state { vars = old.state.vars + n; heap = old.state.heap + n }
  pub row_is : RowAt new row (new_vars n old.state.vars)
