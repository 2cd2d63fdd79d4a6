-- The room of an arena.
use Rattle.std.specs.Prelude.{ℕ, ◌≤◌, List, [], ◌∷◌}
use Rattle.dg_unify.specs.Store.{Saved}

-- There is room for as many cells, variables, bindings and waiting parts as the heap may count, and there are no more cells than it counts.
pub record HasRoom (limit heap cells room vars links waits : ℕ) : Type 0 where
  pub cells_fit : limit ≤ room
  pub vars_fit : limit ≤ vars
  pub links_fit : limit ≤ links
  pub waits_fit : limit ≤ waits
  pub counted : cells ≤ heap
  pub small : limit ≤ 2147483648

-- So it was at each of these marks.
abbrev pub WereCounted : List Saved → Type 0
WereCounted [] = Unit {0}
WereCounted (m ∷ ms) = (m.mark.slots ≤ m.mark.heap) × WereCounted ms
