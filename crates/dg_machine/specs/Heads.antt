-- Heads that are matched as they are read. Hold it against dg_unify/specs/Store.antt. Which are is said in dg_mid/specs/Heads.antt.
use Rattle.std.specs.Prelude.{ℕ, ◌≤◌, List, [], ◌∷◌, Bool, Result, Ok, Err}
use Rattle.dg_meaning.specs.Values.{Value, pair}
use Rattle.dg_meaning.specs.Moves.{new_vars}
use Rattle.dg_meaning.specs.Unify.{Unified}
use Rattle.dg_unify.specs.Store.{Store, Does, UnifyFull}
use Rattle.dg_unify.specs.declared.bindings.Full.{Full}
use Rattle.dg_machine.specs.declared.now.Row.{Row}
use Rattle.dg_machine.specs.Refs.{RowAt}

-- A store in which so much was taken of the heap.
abbrev pub at_heap : ℕ → Store → Store
at_heap n s = record s { state = record s.state { heap = n } }

-- A unification was done with so much taken of the heap, or the trail is full.
abbrev pub Matches : ℕ → Store → Store → Unified → Result Bool Full → Type 0
Matches n old new meant (Ok agreed) = Does (at_heap n old) new meant agreed
Matches n old new meant (Err e) = UnifyFull old meant e

-- The list of some values, with this end.
abbrev pub listed : List Value → Value → Value
listed [] end = end
listed (v ∷ vs) end = pair v (listed vs end)

-- A row has new variables alone, of which the first has this number.
pub record IsOwn (s : Store) (row : Row) (number : ℕ) : Type 0 where
  pub count : ℕ
  pub vars : RowAt s row (new_vars count number)
  pub low : number ≤ 2147483648
