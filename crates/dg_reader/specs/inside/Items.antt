-- What the reader answers for one item, in the words of reading token by token. The proofs alone rest on it.
use Rattle.std.specs.Prelude.{◌≡◌, ◌+◌, ◌<◌, ℕ, List, [], ◌∷◌, take, length, map, Some, None, Result, Ok, Err}
use Rattle.dg_open.specs.Shapes.{Shape}
use Rattle.dg_reader.specs.Tokens.{Tok}
use Rattle.dg_reader.specs.inside.Machine.{run}
use Rattle.dg_open.specs.inside.Standing.{start, finished, Stack}
use Rattle.dg_reader.specs.TokenView.{token_view}
use Rattle.dg_lex.specs.declared.token.Token.{Token}
use Rattle.dg_reader.specs.declared.item.ShapeFault.{ShapeFault}
use Rattle.dg_reader.specs.declared.item.ShapeFault.TheVariants as fault

-- The token of this number is the first that isn't taken.
pub record StopsAt (ts : List Token) (index : ℕ) : Type 0 where
  pub within : index < length ts
  pub before : Stack
  pub taken : run (map token_view (take index ts)) (start ∷ []) ≡ Some before
  pub stops : run (map token_view (take (index + 1) ts)) (start ∷ []) ≡ None

-- All tokens are taken, and no item ends there.
pub record IsOpen (ts : List Tok) : Type 0 where
  pub last : Stack
  pub taken : run ts (start ∷ []) ≡ Some last
  pub goes_on : finished last ≡ None

-- All tokens are taken, and this item ends there.
pub record EndsAs (ts : List Tok) (shape : Shape) : Type 0 where
  pub last : Stack
  pub taken : run ts (start ∷ []) ≡ Some last
  pub ends : finished last ≡ Some shape

-- A token may not stand where it does: then this of its number.
abbrev pub OnUnexpected : {T : Type 0} → Result T ShapeFault → (ℕ → Type 0) → Type 0
OnUnexpected (Ok x) P = Unit {0}
OnUnexpected (Err fault.Unclosed) P = Unit {0}
OnUnexpected (Err (fault.Unexpected index)) P = P index
OnUnexpected (Err fault.OutOfMemory) P = Unit {0}

-- The tokens may go on: then this.
abbrev pub OnUnclosed : {T : Type 0} → Result T ShapeFault → Type 0 → Type 0
OnUnclosed (Ok x) P = Unit {0}
OnUnclosed (Err fault.Unclosed) P = P
OnUnclosed (Err (fault.Unexpected index)) P = Unit {0}
OnUnclosed (Err fault.OutOfMemory) P = Unit {0}
