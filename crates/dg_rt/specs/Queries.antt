-- What the routines do that are called around the rules of a query. Hold it against dg_mid/specs/Step.antt, where it says what a query goes on with and
-- what comes behind the answer of a rule.
use Rattle.std.specs.Prelude.{◌≡◌, ◌≢◌, ℕ, ◌+◌, ◌*◌, ◌<◌, ◌≤◌, List, [], ◌∷◌, Bool, true, false}
use Rattle.dg_meaning.specs.Values.{Value}
use Rattle.dg_meaning.specs.Substitutions.{Substitution, walk, links}
use Rattle.z_lang.specs.State.{Program}
use Rattle.z_lang.specs.Runs.{ActsRun as Runs, Returns}
use Rattle.dg_rt.specs.declared.numbers.TheConstants.{FAIL}
use Rattle.dg_rt.specs.declared.queries.TheConstants.{LEAVE_ACTS, ASK_ACTS, TAIL_CALL_ACTS, BODY_ACTS}
use Rattle.dg_rt.specs.Cells.{Holds, bit}
use Rattle.dg_rt.specs.Areas.{heap_at, heap_reg, frame_reg, choice_reg, inner_reg, back_reg, cut_reg, many_reg, key_reg, begin_reg, args_reg, IsMapped, state}
use Rattle.dg_rt.specs.Shapes.{Shape, IsShape, Shows, Stands}
use Rattle.dg_rt.specs.Back.{at_place}
use Rattle.dg_rt.specs.RunTime.{HasRunTime}
use Rattle.dg_rt.specs.Charges.{MeetsLimit}
use Rattle.dg_rt.specs.Frames.{RowIs}
use Rattle.dg_rt.specs.Choices.{Chain, left_of, dropped_of}
use Rattle.dg_rt.specs.Rules.{KeyIs}

-- ## Answers

-- The choices that are left behind the answer of a rule that cuts to a place, and how many are dropped: none where all its answers are wanted.
abbrev pub left_by : Bool → ℕ → List ℕ → List ℕ
left_by true to ks = ks
left_by false to ks = left_of to ks

abbrev pub dropped_by : Bool → ℕ → List ℕ → ℕ
dropped_by true to ks = 0
dropped_by false to ks = dropped_of to ks

-- A rule was answered, in 13 instructions and 4 for each choice that is dropped: the frame behind its own is the newest, with the inner constructs that
-- were open where it was entered, and the routine comes that its frame keeps.
pub record Leaves (p : Program) (f w : ℕ) (memory typed output : List ℕ) (drawn at to : ℕ) (many : Bool) (cells : ℕ → ℕ) (ks : List ℕ) :
    Type 0 where
  pub memory' : List ℕ
  pub cells' : ℕ → ℕ
  pub locals' : List ℕ
  pub holds : Holds p.world.layout memory' cells'
  pub frame : cells' frame_reg ≡ cells (heap_at + (at + 0))
  pub inner : cells' inner_reg ≡ cells (heap_at + (at + 3))
  pub chain : Chain cells' (cells' choice_reg) (left_by many to ks)
  pub others : (k : ℕ) → k ≢ frame_reg → k ≢ choice_reg → k ≢ inner_reg → cells' k ≡ cells k
  pub count : ℕ
  pub few : count ≤ 4 * dropped_by many to ks + 13
  pub runs : Runs p f w LEAVE_ACTS LEAVE_ACTS (state memory (0 ∷ 0 ∷ 0 ∷ 0 ∷ []) typed drawn output) (Returns (cells (heap_at + (at + 1))))
      (state memory' locals' typed drawn output) count

-- So it is where there is a frame, which keeps to which place it cuts, and how many variables it has; without one the routine that fails is answered.
pub record LeaveWorks : Type 0 where
  pub leaves : (p : Program) → HasRunTime p → (f w : ℕ) → 1 ≤ f → 1 ≤ w → (memory typed output : List ℕ) (drawn at to n : ℕ) (many : Bool)
      (cells : ℕ → ℕ) → Holds p.world.layout memory cells → cells frame_reg ≡ at_place at → at + 6 ≤ 10000 →
      cells (heap_at + (at + 2)) ≡ at_place to → to < 16384 → cells (heap_at + (at + 4)) ≡ 2 * n + bit many → n ≤ 10000 → (ks : List ℕ) →
      Chain cells (cells choice_reg) ks → Leaves p f w memory typed output drawn at to many cells ks
  pub has_none : (p : Program) → IsMapped p → (f w : ℕ) (memory typed output : List ℕ) (drawn : ℕ) (cells : ℕ → ℕ) →
      Holds p.world.layout memory cells → cells frame_reg ≡ 0 →
      Runs p f w LEAVE_ACTS LEAVE_ACTS (state memory (0 ∷ 0 ∷ 0 ∷ 0 ∷ []) typed drawn output) (Returns (p.names.routine FAIL))
      (state memory (0 ∷ 0 ∷ 0 ∷ 0 ∷ []) typed drawn output) 2

-- ## Asking

-- A predicate was asked: what comes behind an answer, whether all are wanted, and a place to cut to, the top of the heap, are in the registers, with the
-- key of the first argument, and no rule is found yet.
pub record Asks (p : Program) (f w : ℕ) (memory typed output : List ℕ) (drawn routine many first top : ℕ) (cells : ℕ → ℕ) (IsKey : ℕ → Type 0)
    (most : ℕ) : Type 0 where
  pub memory' : List ℕ
  pub cells' : ℕ → ℕ
  pub holds : Holds p.world.layout memory' cells'
  pub back : cells' back_reg ≡ routine
  pub wanted : cells' many_reg ≡ many
  pub cut : cells' cut_reg ≡ at_place top
  pub begin : cells' begin_reg ≡ 0
  pub key : IsKey (cells' key_reg)
  pub others : (k : ℕ) → k ≢ back_reg → k ≢ many_reg → k ≢ cut_reg → k ≢ begin_reg → k ≢ key_reg → cells' k ≡ cells k
  pub count : ℕ
  pub few : count ≤ most
  pub runs : Runs p f w ASK_ACTS ASK_ACTS (state memory (routine ∷ many ∷ first ∷ 0 ∷ []) typed drawn output) (Returns 0)
      (state memory' (routine ∷ many ∷ first ∷ 0 ∷ []) typed drawn output) count

-- So it is with any first argument, in 5 instructions a link of it and 20, and without one in 7, with the key of a variable.
pub record AskWorks : Type 0 where
  pub asks : (p : Program) → HasRunTime p → (f w : ℕ) → 2 ≤ f → 8 ≤ w →
      (memory typed output : List ℕ) (drawn routine many top : ℕ) (sh : Shape) → IsShape sh → (cells : ℕ → ℕ) →
      Holds p.world.layout memory cells → (S : Substitution) → Stands sh cells S → (v : Value) → Shows sh (cells args_reg) v →
      cells heap_reg ≡ top → top ≤ 10000 → routine < 65536 → many < 65536 →
      Asks p f w memory typed output drawn routine many 1 top cells (KeyIs (walk S v)) (5 * links S v + 20)
  pub has_none : (p : Program) → HasRunTime p → (f w : ℕ) (memory typed output : List ℕ) (drawn routine many top : ℕ) (cells : ℕ → ℕ) →
      Holds p.world.layout memory cells → cells heap_reg ≡ top → top ≤ 10000 → routine < 65536 → many < 65536 →
      Asks p f w memory typed output drawn routine many 0 top cells (λ key. key ≡ 32768) 7

-- ## The last query of a rule

-- Where all answers of the rule are wanted, its frame was left, in 8 instructions, with the inner constructs there, and the routine is answered that its
-- frame keeps.
pub record LeavesFirst (p : Program) (f w : ℕ) (memory typed output : List ℕ) (drawn at x : ℕ) (cells : ℕ → ℕ) : Type 0 where
  pub memory' : List ℕ
  pub cells' : ℕ → ℕ
  pub locals' : List ℕ
  pub holds : Holds p.world.layout memory' cells'
  pub frame : cells' frame_reg ≡ cells (heap_at + (at + 0))
  pub inner : cells' inner_reg ≡ cells (heap_at + (at + 3))
  pub others : (k : ℕ) → k ≢ frame_reg → k ≢ inner_reg → cells' k ≡ cells k
  pub runs : Runs p f w TAIL_CALL_ACTS TAIL_CALL_ACTS (state memory (x ∷ 0 ∷ []) typed drawn output) (Returns (cells (heap_at + (at + 1))))
      (state memory' locals' typed drawn output) 8

-- Else the frame stays, with no inner construct, and the routine is answered that answers a rule.
pub record Stays (p : Program) (f w : ℕ) (memory typed output : List ℕ) (drawn x : ℕ) (cells : ℕ → ℕ) (most : ℕ) : Type 0 where
  pub memory' : List ℕ
  pub cells' : ℕ → ℕ
  pub locals' : List ℕ
  pub holds : Holds p.world.layout memory' cells'
  pub inner : cells' inner_reg ≡ 0
  pub others : (k : ℕ) → k ≢ inner_reg → cells' k ≡ cells k
  pub count : ℕ
  pub few : count ≤ most
  pub runs : Runs p f w TAIL_CALL_ACTS TAIL_CALL_ACTS (state memory (x ∷ 0 ∷ []) typed drawn output) (Returns x)
      (state memory' locals' typed drawn output) count

-- So it is by what the frame keeps; without a frame it is as where one answer is wanted.
pub record TailCallWorks : Type 0 where
  pub leaves : (p : Program) → HasRunTime p → (f w : ℕ) (memory typed output : List ℕ) (drawn at n x : ℕ) (cells : ℕ → ℕ) →
      Holds p.world.layout memory cells → cells frame_reg ≡ at_place at → at + 6 ≤ 10000 → cells (heap_at + (at + 4)) ≡ 2 * n + 1 →
      n ≤ 10000 → LeavesFirst p f w memory typed output drawn at x cells
  pub stays : (p : Program) → HasRunTime p → (f w : ℕ) (memory typed output : List ℕ) (drawn at n x : ℕ) (cells : ℕ → ℕ) →
      Holds p.world.layout memory cells → cells frame_reg ≡ at_place at → at + 6 ≤ 10000 → cells (heap_at + (at + 4)) ≡ 2 * n → n ≤ 10000 →
      Stays p f w memory typed output drawn x cells 6
  pub has_none : (p : Program) → HasRunTime p → (f w : ℕ) (memory typed output : List ℕ) (drawn x : ℕ) (cells : ℕ → ℕ) →
      Holds p.world.layout memory cells → cells frame_reg ≡ 0 → Stays p f w memory typed output drawn x cells 3

-- ## Bodies of closures

-- A frame was made on top of the heap for the body of a closure, in 4 instructions a variable and 20: its six cells have what the registers say of the
-- query, its own place to cut to, and the closure's box; each of its own variables has its own place, and it is the newest, with no inner construct.
pub record EntersBody (p : Program) (f w : ℕ) (memory typed output : List ℕ) (drawn n box : ℕ) (cells : ℕ → ℕ) (top : ℕ) : Type 0 where
  pub memory' : List ℕ
  pub cells' : ℕ → ℕ
  pub locals' : List ℕ
  pub holds : Holds p.world.layout memory' cells'
  pub heap : cells' heap_reg ≡ top + 6 + n
  pub frame : cells' frame_reg ≡ at_place top
  pub inner : cells' inner_reg ≡ 0
  pub row : RowIs cells' (top + 0)
      (cells frame_reg ∷ cells back_reg ∷ at_place top ∷ cells inner_reg ∷ (n + n + cells many_reg) ∷ box ∷ [])
  pub vars : (i : ℕ) → i < n → cells' (heap_at + (top + 6 + i)) ≡ at_place (top + 6 + i)
  pub others : (k : ℕ) → k ≢ heap_reg → k ≢ frame_reg → k ≢ inner_reg → (heap_at + top ≤ k → heap_at + (top + 6 + n) ≤ k) →
      cells' k ≡ cells k
  pub count : ℕ
  pub few : count ≤ 4 * n + 20
  pub runs : Runs p f w BODY_ACTS BODY_ACTS (state memory (n ∷ box ∷ 0 ∷ 0 ∷ []) typed drawn output) (Returns 0)
      (state memory' locals' typed drawn output) count

-- So it is where there is room for it; else the heap's limit is met.
pub record BodyWorks : Type 0 where
  pub enters : (p : Program) → HasRunTime p → (f w : ℕ) (memory typed output : List ℕ) (drawn n box : ℕ) (cells : ℕ → ℕ) (top : ℕ) →
      Holds p.world.layout memory cells → cells heap_reg ≡ top → top + (6 + n) ≤ 10000 → cells many_reg ≤ 1 → box < 65536 →
      EntersBody p f w memory typed output drawn n box cells top
  pub meets : (p : Program) → HasRunTime p → (f w : ℕ) → 2 ≤ f →
      (memory typed output : List ℕ) (drawn n box : ℕ) (cells : ℕ → ℕ) (top : ℕ) →
      Holds p.world.layout memory cells → cells heap_reg ≡ top → top ≤ 10000 → n ≤ 10001 → 10000 < top + (6 + n) →
      MeetsLimit p f w BODY_ACTS memory (n ∷ box ∷ 0 ∷ 0 ∷ []) typed output drawn cells 4
