-- Letters that are written into a row, for words that are joined.
use Rattle.std.proofs.Common.{◌≡◌, ℕ, ◌+◌, ◌*◌, ◌<◌, ◌≤◌, List, [], ◌∷◌, ◌++◌, length, Option, Some, arith}
use Rattle.z_lang.specs.State.{Program}
use Rattle.z_lang.specs.Standing.{IsKept}
use Rattle.dg_rt.specs.Cells.{at_cell, Holds}
use Rattle.dg_rt.specs.Copies.{Row}
use Rattle.dg_rt.specs.Shapes.{ArePrinted}

-- The letters of the row from a place on, if there are some and not too many, were written, and the address behind them is answered; else one behind the
-- row's end is. Nothing in front of that place was changed. A letter takes 15 instructions.
pub data Puts (p : Program) (story : List ℕ) (cells : ℕ → ℕ) (k : ℕ) (made : Option (List ℕ)) (base : ℕ) (leads : ℕ → List ℕ → List ℕ → ℕ → Type 0) : Type 0 where
  in_row : (xs memory locals : List ℕ) (cells' : ℕ → ℕ) (count : ℕ) → made ≡ Some xs → ArePrinted xs → k + length xs ≤ 15800 → Holds p.world.layout memory cells' →
      IsKept p.world.layout.base story memory → Row cells' k xs → ((i : ℕ) → (k ≤ i → 15945 ≤ i) → cells' i ≡ cells i) → count ≤ base + 15 * length xs →
      leads (at_cell (k + length xs)) memory locals count → Puts p story cells k made base leads
  past_row : (memory locals : List ℕ) (cells' : ℕ → ℕ) (x count : ℕ) → ((xs : List ℕ) → made ≡ Some xs → 15800 < k + length xs) → Holds p.world.layout memory cells' →
      IsKept p.world.layout.base story memory → ((i : ℕ) → (k ≤ i → 15945 ≤ i) → cells' i ≡ cells i) → 31664 < x → x < 32768 → count + 15 * k ≤ base + 237000 →
      leads x memory locals count → Puts p story cells k made base leads

-- More acts in front.
pub mapped : {p : Program} {story : List ℕ} {cells : ℕ → ℕ} {k : ℕ} {made : Option (List ℕ)} {base : ℕ} {leads leads' : ℕ → List ℕ → List ℕ → ℕ → Type 0} (d : ℕ) (g : ℕ → ℕ) →
    ((i : ℕ) → g i ≤ d + i) → ((x : ℕ) (m l : List ℕ) (i : ℕ) → leads x m l i → leads' x m l (g i)) → Puts p story cells k made base leads → Puts p story cells k made (d + base) leads'
mapped d g le way (in_row xs m l c count is fine short h kept row others few r) = let more = le count in in_row xs m l c (g count) is fine short h kept row others (omega arith) (way (at_cell _) m l count r)
mapped d g le way (past_row m l c x count not h kept others low high few r) = let more = le count in past_row m l c x (g count) not h kept others low high (omega arith) (way x m l count r)

-- A call that answers so, behind which the caller's locals are these.
pub called : {p : Program} {story : List ℕ} {cells : ℕ → ℕ} {k : ℕ} {made : Option (List ℕ)} {base : ℕ} {leads leads' : ℕ → List ℕ → List ℕ → ℕ → Type 0} (d : ℕ) (g : ℕ → ℕ) (at : ℕ → List ℕ) →
    ((i : ℕ) → g i ≤ d + i) → ((x : ℕ) (m l : List ℕ) (i : ℕ) → leads x m l i → leads' x m (at x) (g i)) → Puts p story cells k made base leads → Puts p story cells k made (d + base) leads'
called {k} d g at le way (in_row xs m l c count is fine short h kept row others few r) = let more = le count in in_row xs m (at (at_cell (k + length xs))) c (g count) is fine short h kept row others (omega arith) (way (at_cell (k + length xs)) m l count r)
called d g at le way (past_row m l c x count not h kept others low high few r) = let more = le count in past_row m (at x) c x (g count) not h kept others low high (omega arith) (way x m l count r)

pub wider : {p : Program} {story : List ℕ} {cells : ℕ → ℕ} {k : ℕ} {made : Option (List ℕ)} {base : ℕ} {leads : ℕ → List ℕ → List ℕ → ℕ → Type 0} (base' : ℕ) → base ≤ base' →
    Puts p story cells k made base leads → Puts p story cells k made base' leads
wider base' le (in_row xs m l c count is fine short h kept row others few r) = in_row xs m l c count is fine short h kept row others (omega arith) r
wider base' le (past_row m l c x count not h kept others low high few r) = past_row m l c x count not h kept others low high (omega arith) r

-- Letters of which each is printed, in a row.
pub printed_on : (xs ys : List ℕ) → ArePrinted xs → ArePrinted ys → ArePrinted (xs ++ ys)
printed_on [] ys a b = b
printed_on (x ∷ xs) ys a b = (a.0, printed_on xs ys a.1 b)
