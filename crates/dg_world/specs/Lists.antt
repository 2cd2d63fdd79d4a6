-- Lists of cells that stand one after another in one row.
use Rattle.std.specs.Prelude.{◌≡◌, ℕ, ◌+◌, ◌-◌, List, [], ◌∷◌, ◌++◌, length, take, drop}
use Rattle.dg_base.specs.declared.cells.Cell.{Cell}

-- What is seen of an area: a list for each place, and how many cells it may hold.
pub record Lists : Type 0 where
  pub lists : List (List Cell)
  pub keep : ℕ

-- The cells of all lists in order.
abbrev pub joined : List (List Cell) → List Cell
joined [] = []
joined (l ∷ ls) = l ++ joined ls

-- Where each list begins, the first at n, and where the last one ends.
abbrev pub starts_from : ℕ → List (List Cell) → List ℕ
starts_from n [] = n ∷ []
starts_from n (l ∷ ls) = n ∷ starts_from (n + length l) ls

-- The lists that begin at these places of a row, but for the last, where the row ends.
abbrev pub cut_from : ℕ → List ℕ → List Cell → List (List Cell)
cut_from a [] cells = []
cut_from a (b ∷ bs) cells = take (b - a) cells ∷ cut_from b bs (drop (b - a) cells)

-- The lists that begin at the first of these places.
abbrev pub cut : List ℕ → List Cell → List (List Cell)
cut [] cells = []
cut (a ∷ bs) cells = cut_from a bs cells

-- The row is cut at where its lists begin.
pub record IsCut (starts : List ℕ) (cells : List Cell) : Type 0 where
  pub row : cells ≡ joined (cut starts cells)
  pub begin : starts ≡ starts_from 0 (cut starts cells)
