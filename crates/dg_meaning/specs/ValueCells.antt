-- A value written out as a row of cells, as a stored or gathered value is kept. Hold it against docs/LANGUAGE.md, "Limits", where it says what the
-- values that are kept and gathered count.
use Rattle.std.specs.Prelude.{ℕ, ◌+◌, List, [], ◌∷◌, ◌++◌, map, length}
use Rattle.dg_base.specs.declared.cells.Cell.{Cell}
use Rattle.dg_base.specs.declared.cells.Cell.TheVariants as cell
use Rattle.dg_meaning.specs.Values.{Label, Num, Word, Unknown, Object, Nil, Pair, Closure, Value, Var, Node, Values, NoMore, More}

-- How many values these are.
abbrev pub count_of : Values → ℕ
count_of NoMore = 0
count_of (More v vs) = 1 + count_of vs

-- The cells of a label with so many parts: one, and one more for each character of an unknown word.
abbrev pub label_cells : Label → ℕ → List Cell
label_cells (Num n) parts = cell.Num n ∷ []
label_cells (Word n) parts = cell.Word n ∷ []
label_cells (Unknown spelling) parts = cell.Unknown (length spelling) ∷ map cell.Char spelling
label_cells (Object n) parts = cell.Object n ∷ []
label_cells Nil parts = cell.Nil ∷ []
label_cells Pair parts = cell.Pair ∷ []
label_cells (Closure place) parts = cell.Closure place parts ∷ []

-- The cells of a value: those of its label, and then those of its parts in order. A variable is one cell, which doesn't say which it is.
abbrev mutual
  pub cells_of : Value → List Cell
  cells_of (Var n) = cell.Fresh ∷ []
  cells_of (Node label parts) = label_cells label (count_of parts) ++ cells_of_all parts

  pub cells_of_all : Values → List Cell
  cells_of_all NoMore = []
  cells_of_all (More v vs) = cells_of v ++ cells_of_all vs
