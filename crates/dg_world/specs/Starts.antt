-- What starts set, as tables and kept lists. Hold it against docs/LANGUAGE.md, "The world", on initial values.
use Rattle.std.specs.Prelude.{ℕ, List, [], ◌∷◌, ◌++◌, Option, Some, None, replicate, slice_set}
use Rattle.std.specs.List.{All}
use Rattle.std.specs.Borrow.{Bor}
use Rattle.dg_base.specs.declared.cells.Cell.{Cell}
use Rattle.dg_base.specs.declared.cells.Cell.TheVariants as cell
use Rattle.dg_base.specs.declared.cells.Simple.{Simple}
use Rattle.dg_base.specs.declared.cells.Simple.TheVariants as simple
use Rattle.dg_base.specs.declared.program.Term.{Term, out-Term}
use Rattle.dg_base.specs.declared.program.Term.TheOpen as term
use Rattle.dg_base.specs.declared.program.Place.{Place}
use Rattle.dg_base.specs.declared.program.PlaceKind.{PlaceKind}
use Rattle.dg_base.specs.declared.program.PlaceKind.TheVariants.{Global}
use Rattle.dg_base.specs.Sound.{FitsStart}
use Rattle.dg_meaning.specs.ValueCells.{cells_of}
use Rattle.dg_meaning.specs.Facts.{start_value}
use Rattle.dg_world.specs.Tables.{Table, width_of}

-- What starts set at a place fits its kind.
abbrev pub HasStarts : ℕ → Place → Type 0
HasStarts objects place = All (λ (s : ℕ × Term). FitsStart place.kind objects s.0 s.1) place.start

-- What a slot is to hold of a term.
abbrev pub slot_of : term.Term-F Term → Option Simple
slot_of (term.Num n) = Some (simple.Num n)
slot_of (term.Word n) = Some (simple.Word n)
slot_of (term.Object n) = Some (simple.Object n)
slot_of term.Nil = Some simple.Nil
slot_of other = None

-- Slots, with what starts set in them; the first at a number decides.
abbrev pub filled : List (ℕ × Term) → List (Option Simple) → List (Option Simple)
filled [] slots = slots
filled (s ∷ starts) slots = slice_set (filled starts slots) s.0 (slot_of (out-Term s.1))

-- The cells of the first value of some.
abbrev pub first_cells : List (ℕ × Term) → List Cell
first_cells [] = []
first_cells (s ∷ starts) = cells_of (start_value s.1)

-- The cells that are kept at the start for a place of a kind: none but for a global variable.
abbrev pub cells_at_start : PlaceKind → List (ℕ × Term) → List Cell
cells_at_start Global starts = first_cells starts
cells_at_start kind starts = []

-- The table of a place at the start.
abbrev pub starting_table : ℕ → Place → Table
starting_table objects place = record { kind = place.kind; slots = filled place.start (replicate (width_of place.kind objects) None) }

-- The kept list of a place at the start.
abbrev pub starting_cells : Place → List Cell
starting_cells place = cells_at_start place.kind place.start

-- The cell at the top of a term.
abbrev pub top_cell : term.Term-F Term → Cell
top_cell (term.Num n) = cell.Num n
top_cell (term.Word n) = cell.Word n
top_cell (term.Object n) = cell.Object n
top_cell term.Nil = cell.Nil
top_cell (term.Var v) = cell.Nil
top_cell (term.Closure c) = cell.Closure c 0
top_cell (term.Pair head tail) = cell.Pair

-- The cells of terms that are left to write out, the last first.
abbrev pub unwritten : List (Bor Term) → List Cell
unwritten [] = []
unwritten (t ∷ ts) = unwritten ts ++ cells_of (start_value t.now)
