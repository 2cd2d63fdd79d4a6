-- What the routine that undoes bindings does. Hold it against the Dialog manual, chapter "Choice points" (on backtracking).
use Rattle.std.specs.Prelude.{◌≡◌, ◌≢◌, ℕ, ◌+◌, ◌*◌, ◌<◌, ◌≤◌, List, [], ◌∷◌, ◌++◌, length, Some, None}
use Rattle.dg_meaning.specs.Values.{Value}
use Rattle.dg_meaning.specs.Substitutions.{Substitution}
use Rattle.dg_meaning.specs.inside.Unifiers.{binding_of}
use Rattle.z_lang.specs.declared.act.Act.{Act}
use Rattle.z_lang.specs.State.{Program}
use Rattle.z_lang.specs.Runs.{ActsRun as Runs, Returns}
use Rattle.dg_rt.specs.declared.unify.TheConstants.{UNDO_ACTS}
use Rattle.dg_rt.specs.Cells.{Holds}
use Rattle.dg_rt.specs.Areas.{heap_at, trail_at, trail_reg, IsMapped, state}
use Rattle.dg_rt.specs.Shapes.{Shape, IsShape, IsFixed, Shows}
use Rattle.dg_rt.specs.Back.{undone, OnTrail, Begun}
use Rattle.dg_rt.specs.Moments.{trail_of, IsAt}

-- ## By the places on the trail

-- Places of the heap.
abbrev pub InHeap : List ℕ → Type 0
InHeap [] = Unit {0}
InHeap (j ∷ js) = (j < 10000) × InHeap js

-- The variables at these places, the newest on the trail, are unbound again, within 6 instructions for each and 2.
pub record Unwinds (p : Program) (f w : ℕ) (acts : List Act) (memory typed output : List ℕ) (drawn left x : ℕ) (cells : ℕ → ℕ) (newer : List ℕ) :
    Type 0 where
  pub memory' : List ℕ
  pub cells' : ℕ → ℕ
  pub locals' : List ℕ
  pub count : ℕ
  pub runs : Runs p f w UNDO_ACTS acts (state memory (left ∷ x ∷ []) typed drawn output) (Returns 0) (state memory' locals' typed drawn output) count
  pub holds : Holds p.world.layout memory' cells'
  pub height : cells' trail_reg ≡ left
  pub words : (k : ℕ) → k < 10000 → cells' (heap_at + k) ≡ undone newer cells (heap_at + k)
  pub others : (k : ℕ) → k ≢ trail_reg → (heap_at ≤ k → trail_at ≤ k) → cells' k ≡ cells k
  pub few : count ≤ 6 * length newer + 2

-- So it does wherever it is called with the height of a trail that the trail at hand has grown from.
abbrev pub UndoUnwinds : Type 0
UndoUnwinds = (p : Program) → IsMapped p →
    (f w : ℕ) (typed output : List ℕ) (drawn : ℕ) (old newer memory : List ℕ) (cells : ℕ → ℕ) (x : ℕ) →
    Holds p.world.layout memory cells → cells trail_reg ≡ length (newer ++ old) → length (newer ++ old) ≤ 2000 → OnTrail cells (newer ++ old) →
    InHeap newer →
    Unwinds p f w UNDO_ACTS memory typed output drawn (length old) x cells newer

-- ## By the substitution

-- What memory says of the variables older than the mark: they stand for a substitution.
pub record OldStand (sh : Shape) (since : ℕ) (cells : ℕ → ℕ) (S : Substitution) : Type 0 where
  pub fixed : (k : ℕ) → k < 10000 → IsFixed sh k → cells (heap_at + k) ≡ sh.fixed k
  pub unbound : (n : ℕ) → n < since → binding_of n S ≡ None → cells (heap_at + sh.place n) ≡ 32768 + sh.place n
  pub bound : (n : ℕ) (v : Value) → n < since → binding_of n S ≡ Some v → Shows sh (cells (heap_at + sh.place n)) v

-- The routine undoes what was bound since S0, within 6 instructions for each place of the trail and 2.
pub record Undoes (p : Program) (sh : Shape) (since left f w : ℕ) (acts : List Act) (memory typed output : List ℕ) (drawn x : ℕ) (S0 : Substitution)
    (taken : ℕ) : Type 0 where
  pub memory' : List ℕ
  pub cells' : ℕ → ℕ
  pub locals' : List ℕ
  pub count : ℕ
  pub runs : Runs p f w UNDO_ACTS acts (state memory (left ∷ x ∷ []) typed drawn output) (Returns 0) (state memory' locals' typed drawn output) count
  pub holds : Holds p.world.layout memory' cells'
  pub height : cells' trail_reg ≡ left
  pub old : OldStand sh since cells' S0
  pub few : count ≤ 6 * taken + 2

-- So it does at any moment of a unification, and the trail has its height again.
abbrev pub UndoGivesBack : Type 0
UndoGivesBack = (p : Program) → IsMapped p → (sh : Shape) → IsShape sh → (since : ℕ) → since ≤ sh.vars → (f w : ℕ) (typed output : List ℕ)
    (drawn left : ℕ) (S0 : Substitution) (hb : ℕ) (begun : Begun) (memory : List ℕ) (cells : ℕ → ℕ) (S : Substitution) (x : ℕ) →
    (here : IsAt p.world.layout sh since hb S0 left begun memory cells S) → left + trail_of since here.made ≤ 2000 →
    Undoes p sh since left f w UNDO_ACTS memory typed output drawn x S0 (trail_of since here.made)
