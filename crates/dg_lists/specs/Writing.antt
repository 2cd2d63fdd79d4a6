-- What is written of a value to a row of cells, from its top on. Hold it against dg_meaning/specs/ValueCells.antt.
use Rattle.std.specs.Prelude.{◌≡◌, ℕ, ◌+◌, ◌<◌, ◌≤◌, List, [], ◌∷◌, ◌++◌, Option, Some, None, take, length}
use Rattle.dg_base.specs.declared.cells.Cell.{Cell}
use Rattle.dg_base.specs.declared.cells.Cell.TheVariants as cell
use Rattle.dg_meaning.specs.Values.{Value, Var, Node, Values}
use Rattle.dg_meaning.specs.Substitutions.{resolved}
use Rattle.dg_meaning.specs.inside.Substitutions.{all_resolved}
use Rattle.dg_meaning.specs.Unify.{size, sizes}
use Rattle.dg_meaning.specs.ValueCells.{count_of, label_cells, cells_of, cells_of_all}
use Rattle.dg_unify.specs.Store.{Store, told}
use Rattle.dg_unify.specs.Parts.{values_of, AreIn}
use Rattle.dg_unify.specs.declared.bindings.Ref.{Ref}
use Rattle.dg_unify.specs.declared.parts.Parts.{Parts}
use Rattle.dg_lists.specs.Formed.{IsFormed, AreFormed}

-- ## A row that is filled from its front

-- These cells were put behind so many others, which stay; or there was no room for them.
abbrev pub Puts : List Cell → List Cell → ℕ → List Cell → Option ℕ → Type 0
Puts cells old filled new None = length new < filled + length cells
Puts cells old filled new (Some n) = (n ≤ length new) × (take n new ≡ take filled old ++ cells)

-- ## The top of a value

-- The cells of a value, but not those of its parts.
abbrev pub top_cells : Value → List Cell
top_cells (Var n) = cell.Fresh ∷ []
top_cells (Node f vs) = label_cells f (count_of vs)

-- The value of a Ref, resolved.
abbrev pub value_at : Store → Ref → Value
value_at s r = resolved s.state.subst (told s r)

-- The values that parts are, resolved.
abbrev pub values_at : Store → Parts → Values
values_at s p = all_resolved s.state.subst (values_of s p)

-- The front of a value was put behind so many cells, and these parts are left of it.
pub record TopIsPut (s : Store) (value : Ref) (old : List Cell) (filled : ℕ) (new : List Cell) (more : ℕ) (inner : Parts) : Type 0 where
  pub within : more ≤ length new
  pub cells : take more new ++ cells_of_all (values_at s inner) ≡ take filled old ++ cells_of (value_at s value)
  pub inner_in : AreIn s inner
  pub size : size (value_at s value) ≡ sizes (values_at s inner) + 1
  pub formed : AreFormed (values_at s inner) → IsFormed (value_at s value)

-- What comes of that; there may be no room for it.
abbrev pub PutsTop : Store → Ref → List Cell → ℕ → List Cell → Option (ℕ × Parts) → Type 0
PutsTop s value old filled new None = length new < filled + length (cells_of (value_at s value))
PutsTop s value old filled new (Some p) = TopIsPut s value old filled new p.0 p.1

-- ## A whole value

-- The cells of a value stand at the front of a row, so many; none where the row is shorter than these.
abbrev pub Writes : Value → List Cell → Option ℕ → Type 0
Writes v row None = length row < length (cells_of v)
Writes v row (Some n) = (n ≤ length row) × (take n row ≡ cells_of v)
