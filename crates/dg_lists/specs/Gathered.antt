-- Gathered lists: a row of cells for each gathering that is open. Hold it against docs/LANGUAGE.md, "Limits", on what gathered values count.
use Rattle.std.specs.Prelude.{ℕ, ◌+◌, List, [], ◌∷◌, ◌++◌, Bool, length, take, drop, nat_eq, nat_le, ◌&&◌, sum_by}
use Rattle.dg_base.specs.declared.cells.Cell.{Cell}

-- What is seen of gathered lists: the cells of each open gathering, the newest first, and how much they may count together.
pub record Gathered : Type 0 where
  pub rows : List (List Cell)
  pub aux : ℕ

-- The gathered size: two for each open gathering, and one for each of its cells.
abbrev pub gathered_size : List (List Cell) → ℕ
gathered_size rows = sum_by (λ row. 2 + length row) rows

-- The rows with cells added to the newest.
abbrev pub added : List Cell → List (List Cell) → List (List Cell)
added cells [] = []
added cells (row ∷ rows) = (row ++ cells) ∷ rows

-- The rows that begin at these places of one long row, the newest first.
abbrev pub cut : List ℕ → List Cell → List (List Cell)
cut [] cells = []
cut (start ∷ starts) cells = drop start cells ∷ cut starts (take start cells)

-- Whether each begins within what is before the newer one, and the oldest at the first cell.
abbrev pub is_stacked : List ℕ → List Cell → Bool
is_stacked [] cells = nat_eq (length cells) 0
is_stacked (start ∷ starts) cells = nat_le start (length cells) && is_stacked starts (take start cells)
