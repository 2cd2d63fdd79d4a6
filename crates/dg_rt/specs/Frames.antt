-- What the routines of frames do: finding a variable of the code at hand, capturing some, and entering a rule. Hold it against docs/LANGUAGE.md,
-- where it says which variables are a rule's own, and dg_mid/specs/State.antt, which says what a frame is.
use Rattle.std.specs.Prelude.{◌≡◌, ◌≢◌, ℕ, zero, suc, ◌+◌, ◌*◌, ◌/◌, ◌%◌, ◌<◌, ◌≤◌, List, [], ◌∷◌, ◌++◌, length, get_or}
use Rattle.dg_meaning.specs.Values.{Value, Nil, leaf}
use Rattle.z_lang.specs.State.{Program}
use Rattle.z_lang.specs.Runs.{ActsRun as Runs, Returns}
use Rattle.dg_rt.specs.declared.frames.TheConstants.{VAR_ACTS, CAPTURE_ACTS, ENTER_ACTS}
use Rattle.dg_rt.specs.Cells.{Holds}
use Rattle.dg_rt.specs.Areas.{heap_at, trail_at, heap_reg, frame_reg, inner_reg, back_reg, cut_reg, many_reg, clash_reg, word_reg, state}
use Rattle.dg_rt.specs.Shapes.{Shape, IsFixed, Cell, Shows}
use Rattle.dg_rt.specs.Back.{at_place}
use Rattle.dg_rt.specs.RunTime.{HasRunTime}
use Rattle.dg_rt.specs.Charges.{MeetsLimit}

-- ## Variables

-- Values stand at places in a row.
abbrev pub InRow : Shape → ℕ → List Value → Type 0
InRow sh k [] = Unit {0}
InRow sh k (v ∷ vs) = Shows sh (at_place k) v × InRow sh (suc k) vs

-- Words in a row stand for values.
abbrev pub InCells : Shape → ℕ → List Value → Type 0
InCells sh k [] = Unit {0}
InCells sh k (v ∷ vs) = IsFixed sh k × Shows sh (sh.fixed k) v × InCells sh (suc k) vs

-- A closure stands in the heap, with what it has captured.
pub record ClosureIn (sh : Shape) (word : ℕ) (vs : List Value) : Type 0 where
  pub at : ℕ
  pub word_is : word ≡ 49152 + at
  pub within : at + 3 + length vs ≤ 10000
  pub count : Cell sh (at + 1) (length vs)
  pub values : InCells sh (at + 3) vs

-- What the closure of a frame has captured: nothing, where it is a rule's.
abbrev pub Captured : Shape → ℕ → List Value → Type 0
Captured sh zero vs = vs ≡ []
Captured sh (suc n) vs = ClosureIn sh (suc n) vs

-- The variables of the frame that a word names: what its closure has captured, and behind that its own.
pub record HasVars (sh : Shape) (word : ℕ) (vars : List Value) : Type 0 where
  pub at : ℕ
  pub word_is : word ≡ at_place at
  pub captured : List Value
  pub own : List Value
  pub vars_are : vars ≡ captured ++ own
  pub below : at + 6 + length own ≤ sh.top
  pub many : ℕ
  pub bit : many ≤ 1
  pub size : Cell sh (at + 4) (2 * length own + many)
  pub c : ℕ
  pub c_is : Cell sh (at + 5) c
  pub closure : Captured sh c captured
  pub row : InRow sh (at + 6) own

-- Those of the code at hand: without a frame there are none.
abbrev pub VarsAt : Shape → ℕ → List Value → Type 0
VarsAt sh zero vars = vars ≡ []
VarsAt sh (suc n) vars = HasVars sh (suc n) vars

-- A variable's word is answered, in 14 instructions at most.
pub record Finds (p : Program) (f w : ℕ) (sh : Shape) (memory typed output : List ℕ) (drawn n : ℕ) (v : Value) : Type 0 where
  pub word : ℕ
  pub shows : Shows sh word v
  pub locals' : List ℕ
  pub count : ℕ
  pub runs : Runs p f w VAR_ACTS VAR_ACTS (state memory (n ∷ 0 ∷ 0 ∷ 0 ∷ []) typed drawn output) (Returns word)
      (state memory locals' typed drawn output) count
  pub few : count ≤ 14

-- So is each of the code at hand, by its number; one that isn't there is the empty list.
abbrev pub VarWorks : Type 0
VarWorks = (p : Program) → HasRunTime p → (f w : ℕ) (sh : Shape) (memory typed output : List ℕ) (drawn : ℕ) (cells : ℕ → ℕ) →
    Holds p.world.layout memory cells → sh.top ≤ 10000 → ((k : ℕ) → k < 10000 → IsFixed sh k → cells (heap_at + k) ≡ sh.fixed k) →
    (vars : List Value) → VarsAt sh (cells frame_reg) vars → (n : ℕ) → n ≤ 16000 →
    Finds p f w sh memory typed output drawn n (get_or vars n (leaf Nil))

-- ## Captured values

-- The numbers of six variables.
abbrev pub six_numbers : ℕ → ℕ → ℕ → List ℕ
six_numbers x y z = (x / 256) ∷ (x % 256) ∷ (y / 256) ∷ (y % 256) ∷ (z / 256) ∷ (z % 256) ∷ []

-- Cells from a place on stand for the variables of these numbers; one that isn't there is the empty list.
abbrev pub HoldVars : Shape → (ℕ → ℕ) → ℕ → List Value → List ℕ → Type 0
HoldVars sh cells k vars [] = Unit {0}
HoldVars sh cells k vars (n ∷ ns) = Shows sh (cells (heap_at + k)) (get_or vars n (leaf Nil)) × HoldVars sh cells (suc k) vars ns

-- The words of six variables were written into the box of a closure, in 53 instructions at most, and the register of the box is six more.
pub record Captures (p : Program) (f w : ℕ) (sh : Shape) (memory typed output : List ℕ) (drawn x y z : ℕ) (cells : ℕ → ℕ) (at : ℕ)
    (vars : List Value) :
    Type 0 where
  pub memory' : List ℕ
  pub cells' : ℕ → ℕ
  pub locals' : List ℕ
  pub holds : Holds p.world.layout memory' cells'
  pub word : cells' word_reg ≡ 49152 + (at + 6)
  pub values : HoldVars sh cells' (at + 3) vars (six_numbers x y z)
  pub others : (k : ℕ) → k ≢ word_reg → (heap_at + (at + 3) ≤ k → heap_at + (at + 9) ≤ k) → cells' k ≡ cells k
  pub count : ℕ
  pub few : count ≤ 53
  pub runs : Runs p f w CAPTURE_ACTS CAPTURE_ACTS (state memory (x ∷ y ∷ z ∷ 0 ∷ 0 ∷ 0 ∷ 0 ∷ 0 ∷ []) typed drawn output) (Returns 0)
      (state memory' locals' typed drawn output) count

-- So they are where the box begins behind what is taken, and its cells are of the heap, or of the twelve words behind it.
abbrev pub CaptureWorks : Type 0
CaptureWorks = (p : Program) → HasRunTime p → (f w : ℕ) (sh : Shape) (memory typed output : List ℕ) (drawn : ℕ) (cells : ℕ → ℕ) →
    Holds p.world.layout memory cells → sh.top ≤ 10000 → ((k : ℕ) → k < 10000 → IsFixed sh k → cells (heap_at + k) ≡ sh.fixed k) →
    (vars : List Value) → VarsAt sh (cells frame_reg) vars → (at : ℕ) → sh.top ≤ at → at + 9 ≤ 10012 → cells word_reg ≡ 49152 + at →
    (x y z : ℕ) → x < 32768 → y < 32768 → z < 32768 → Captures p f w sh memory typed output drawn x y z cells at vars

-- ## Entering

-- Cells in a row have these words.
abbrev pub RowIs : (ℕ → ℕ) → ℕ → List ℕ → Type 0
RowIs cells at [] = Unit {0}
RowIs cells at (x ∷ xs) = (cells (heap_at + at) ≡ x) × RowIs cells (suc at) xs

-- A frame was made on top of the heap, in 4 instructions a variable and 22: its six cells have what the registers say of the query, each of its
-- variables has its own place, and it is the newest, with no inner construct and no clash.
pub record Enters (p : Program) (f w : ℕ) (memory typed output : List ℕ) (drawn n more : ℕ) (cells : ℕ → ℕ) (top : ℕ) : Type 0 where
  pub memory' : List ℕ
  pub cells' : ℕ → ℕ
  pub locals' : List ℕ
  pub holds : Holds p.world.layout memory' cells'
  pub heap : cells' heap_reg ≡ top + 6 + n
  pub frame : cells' frame_reg ≡ at_place top
  pub inner : cells' inner_reg ≡ 0
  pub clash : cells' clash_reg ≡ 0
  pub row : RowIs cells' (top + 0)
      (cells frame_reg ∷ cells back_reg ∷ cells cut_reg ∷ cells inner_reg ∷ (n + n + cells many_reg) ∷ 0 ∷ [])
  pub vars : (i : ℕ) → i < n → cells' (heap_at + (top + 6 + i)) ≡ at_place (top + 6 + i)
  pub others : (k : ℕ) → k ≢ heap_reg → k ≢ frame_reg → k ≢ inner_reg → k ≢ clash_reg → (heap_at + top ≤ k → trail_at ≤ k) →
      cells' k ≡ cells k
  pub count : ℕ
  pub few : count ≤ 4 * n + 22
  pub runs : Runs p f w ENTER_ACTS ENTER_ACTS (state memory (n ∷ more ∷ 0 ∷ 0 ∷ []) typed drawn output) (Returns 0)
      (state memory' locals' typed drawn output) count

-- So it is where there is room for it and so many more cells; else the heap's limit is met.
pub record EnterWorks : Type 0 where
  pub enters : (p : Program) → HasRunTime p → (f w : ℕ) (memory typed output : List ℕ) (drawn n more : ℕ) (cells : ℕ → ℕ) (top : ℕ) →
      Holds p.world.layout memory cells → cells heap_reg ≡ top → top + (6 + n + more) ≤ 10000 → cells many_reg ≤ 1 →
      Enters p f w memory typed output drawn n more cells top
  pub meets : (p : Program) → HasRunTime p → (f w : ℕ) → 2 ≤ f →
      (memory typed output : List ℕ) (drawn n more : ℕ) (cells : ℕ → ℕ) (top : ℕ) →
      Holds p.world.layout memory cells → cells heap_reg ≡ top → top ≤ 10000 → n ≤ 300 → more ≤ 10001 → 10000 < top + (6 + n + more) →
      MeetsLimit p f w ENTER_ACTS memory (n ∷ more ∷ 0 ∷ 0 ∷ []) typed output drawn cells 5
