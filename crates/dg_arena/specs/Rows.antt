-- New variables in a row. Hold it against dg_unify/specs/Store.antt.
use Rattle.std.specs.Prelude.{◌≡◌, ℕ, zero, suc, ◌+◌, ◌≤◌, Some}
use Rattle.dg_meaning.specs.Values.{Var}
use Rattle.dg_unify.specs.Store.{Store}

-- So many variables stand at places in a row, and have numbers in a row.
abbrev pub VarsAt : Store → ℕ → ℕ → ℕ → Type 0
VarsAt s at n zero = Unit {0}
VarsAt s at n (suc k) = (s.value (record { 0 = at }) ≡ Some (Var n)) × VarsAt s (suc at) (suc n) k

-- So many new variables, the youngest, at places in a row behind those that were there. Each took one of the heap.
pub record MadeVars (k : ℕ) (old new : Store) (at : ℕ) : Type 0 where
  pub fits : old.state.heap + k ≤ old.heap_limit
  pub state : new.state ≡ record old.state { vars = old.state.vars + k; heap = old.state.heap + k }
  pub values : VarsAt new at old.state.vars k
  pub place : at ≡ old.places
  pub next : new.places ≡ old.places + k
