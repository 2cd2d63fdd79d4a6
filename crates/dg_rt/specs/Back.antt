-- What undoing gives back. Hold it against the Dialog manual, chapter "Choice points" (on backtracking).
use Rattle.std.specs.Prelude.{◌≡◌, ℕ, ◌+◌, ◌<◌, ◌≤◌, List, [], ◌∷◌, ◌++◌, length, ◌==◌, if◌then◌else◌, Some}
use Rattle.dg_meaning.specs.Values.{Value}
use Rattle.dg_rt.specs.Shapes.{Shape, IsFixed}
use Rattle.dg_rt.specs.Areas.{heap_at, trail_at}

-- The word of a place in the heap.
abbrev pub at_place : ℕ → ℕ
at_place k = 32768 + k

-- Memory at a mark: which cells were taken and stood for what, its words, and the places on the trail, the newest first.
pub record Saved : Type 0 where
  pub sh : Shape
  pub cells : ℕ → ℕ
  pub trail : List ℕ

-- The words where the variables at these places are unbound again.
abbrev pub undone : List ℕ → (ℕ → ℕ) → ℕ → ℕ
undone [] cells k = cells k
undone (j ∷ js) cells k = if k == heap_at + j then at_place j else undone js cells k

-- Cells that are taken in the first are taken in the second, and what is no variable's stays.
pub record Grown (sh sh' : Shape) : Type 0 where
  pub top : sh.top ≤ sh'.top
  pub vars : sh.vars ≤ sh'.vars
  pub places : (n : ℕ) → n < sh.vars → sh'.place n ≡ sh.place n
  pub others : (k : ℕ) → IsFixed sh k → IsFixed sh' k
  pub fixed : (k : ℕ) → IsFixed sh k → sh'.fixed k ≡ sh.fixed k
  pub boxes : (k : ℕ) (v : Value) → sh.box k ≡ Some v → sh'.box k ≡ Some v
  pub told : (place : ℕ) → sh'.captures place ≡ sh.captures place

-- Undoing gives that back.
pub record GivesBack (sh : Shape) (cells : ℕ → ℕ) (trail : List ℕ) (w : Saved) : Type 0 where
  pub grown : Grown w.sh sh
  pub newer : List ℕ
  pub trail_is : trail ≡ newer ++ w.trail
  pub words : (k : ℕ) → k < w.sh.top → undone newer cells (heap_at + k) ≡ w.cells (heap_at + k)

-- The places on the trail, the newest first, stand in its words, the oldest first.
abbrev pub OnTrail : (ℕ → ℕ) → List ℕ → Type 0
OnTrail cells [] = Unit {0}
OnTrail cells (j ∷ js) = ((cells (trail_at + length js) ≡ at_place j) × (j < 10000)) × OnTrail cells js

-- Words and the trail, when a unification began.
pub record Begun : Type 0 where
  pub cells : ℕ → ℕ
  pub trail : List ℕ
