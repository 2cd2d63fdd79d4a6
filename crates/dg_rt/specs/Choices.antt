-- What the routines of choices do: opening one, dropping them, and going back. Hold it against the Dialog manual, chapter "Choice points", and
-- dg_mid/specs/State.antt, which says what a choice is.
use Rattle.std.specs.Prelude.{◌≡◌, ◌≢◌, ℕ, ◌+◌, ◌*◌, ◌<◌, ◌≤◌, nat_lt, List, [], ◌∷◌, ◌++◌, length, if◌then◌else◌}
use Rattle.z_lang.specs.State.{Program}
use Rattle.z_lang.specs.Runs.{ActsRun as Runs, Returns}
use Rattle.dg_rt.specs.declared.numbers.TheConstants.{FAILED, STOPPED}
use Rattle.dg_rt.specs.declared.choices.TheConstants.{CUT_ACTS, OPEN_ACTS, FAIL_ACTS, COMMIT_ACTS, OPEN_INNER_ACTS, UNSTOP_ACTS}
use Rattle.dg_rt.specs.Cells.{Holds}
use Rattle.dg_rt.specs.Areas.{heap_at, trail_at, trail_reg, mark_reg, heap_reg, frame_reg, choice_reg, inner_reg, stop_reg, back_reg, cut_reg, many_reg, key_reg, begin_reg, args_reg, gather_reg, IsMapped, state}
use Rattle.dg_rt.specs.Back.{at_place, undone, OnTrail}
use Rattle.dg_rt.specs.RunTime.{HasRunTime}
use Rattle.dg_rt.specs.Charges.{MeetsLimit}
use Rattle.dg_rt.specs.Frames.{RowIs}

-- ## Opening

-- A choice was opened on top of the heap, in 18 instructions: its ten cells have what the registers say, and it is the newest, with a mark behind it.
pub record Opens (p : Program) (f w : ℕ) (memory typed output : List ℕ) (drawn routine eighth ninth : ℕ) (cells : ℕ → ℕ) (top : ℕ) : Type 0 where
  pub memory' : List ℕ
  pub cells' : ℕ → ℕ
  pub locals' : List ℕ
  pub holds : Holds p.world.layout memory' cells'
  pub heap : cells' heap_reg ≡ top + 10
  pub choice : cells' choice_reg ≡ at_place top
  pub mark : cells' mark_reg ≡ at_place top
  pub row : RowIs cells' (top + 0) (cells choice_reg ∷ routine ∷ cells frame_reg ∷ cells inner_reg ∷ cells stop_reg ∷ cells trail_reg
      ∷ cells gather_reg ∷ eighth ∷ ninth ∷ 0 ∷ [])
  pub others : (k : ℕ) → k ≢ heap_reg → k ≢ choice_reg → k ≢ mark_reg → (heap_at + top ≤ k → heap_at + (top + 10) ≤ k) →
      cells' k ≡ cells k
  pub runs : Runs p f w OPEN_ACTS OPEN_ACTS (state memory (routine ∷ eighth ∷ ninth ∷ 0 ∷ 0 ∷ []) typed drawn output) (Returns (at_place top))
      (state memory' locals' typed drawn output) 18

-- So it is where there is room for it; else the heap's limit is met.
pub record OpenWorks : Type 0 where
  pub opens : (p : Program) → HasRunTime p →
      (f w : ℕ) (memory typed output : List ℕ) (drawn routine eighth ninth : ℕ) (cells : ℕ → ℕ) (top : ℕ) →
      Holds p.world.layout memory cells → cells heap_reg ≡ top → top + 10 ≤ 10000 → routine < 65536 → eighth < 65536 → ninth < 65536 →
      Opens p f w memory typed output drawn routine eighth ninth cells top
  pub meets : (p : Program) → HasRunTime p → (f w : ℕ) → 2 ≤ f →
      (memory typed output : List ℕ) (drawn routine eighth ninth : ℕ) (cells : ℕ → ℕ)
      (top : ℕ) → Holds p.world.layout memory cells → cells heap_reg ≡ top → top ≤ 10000 → 10000 < top + 10 →
      MeetsLimit p f w OPEN_ACTS memory (routine ∷ eighth ∷ ninth ∷ 0 ∷ 0 ∷ []) typed output drawn cells 4

-- An inner construct was opened on top of the heap, in 9 instructions: of its ten cells three have the inner construct and the stoppable part around, and
-- that nothing is gathered; it is the newest. No choice opens, and there is no mark behind it.
pub record OpensInner (p : Program) (f w : ℕ) (memory typed output : List ℕ) (drawn : ℕ) (cells : ℕ → ℕ) (top : ℕ) : Type 0 where
  pub memory' : List ℕ
  pub cells' : ℕ → ℕ
  pub locals' : List ℕ
  pub holds : Holds p.world.layout memory' cells'
  pub heap : cells' heap_reg ≡ top + 10
  pub inner : cells' inner_reg ≡ at_place top
  pub around : cells' (heap_at + (top + 3)) ≡ cells inner_reg
  pub stop : cells' (heap_at + (top + 4)) ≡ cells stop_reg
  pub gathers : cells' (heap_at + (top + 8)) ≡ 65535
  pub others : (k : ℕ) → k ≢ heap_reg → k ≢ inner_reg → (heap_at + top ≤ k → heap_at + (top + 10) ≤ k) → cells' k ≡ cells k
  pub runs : Runs p f w OPEN_INNER_ACTS OPEN_INNER_ACTS (state memory (0 ∷ 0 ∷ []) typed drawn output) (Returns 0)
      (state memory' locals' typed drawn output) 9

-- So it is where there is room for it; else the heap's limit is met.
pub record OpenInnerWorks : Type 0 where
  pub opens : (p : Program) → HasRunTime p → (f w : ℕ) (memory typed output : List ℕ) (drawn : ℕ) (cells : ℕ → ℕ) (top : ℕ) →
      Holds p.world.layout memory cells → cells heap_reg ≡ top → top + 10 ≤ 10000 → OpensInner p f w memory typed output drawn cells top
  pub meets : (p : Program) → HasRunTime p → (f w : ℕ) → 2 ≤ f →
      (memory typed output : List ℕ) (drawn : ℕ) (cells : ℕ → ℕ) (top : ℕ) →
      Holds p.world.layout memory cells → cells heap_reg ≡ top → top ≤ 10000 → 10000 < top + 10 →
      MeetsLimit p f w OPEN_INNER_ACTS memory (0 ∷ 0 ∷ []) typed output drawn cells 3

-- ## Dropping

-- A word names the newest of the choices at these places of the heap; the first cell of each names the one behind it.
abbrev pub Chain : (ℕ → ℕ) → ℕ → List ℕ → Type 0
Chain cells word [] = word ≡ 0
Chain cells word (k ∷ ks) = (word ≡ at_place k) × (k < 10000) × Chain cells (cells (heap_at + k)) ks

-- The choices that are left where those are dropped that aren't older than a place, and how many are dropped: they are the newest.
abbrev pub left_of : ℕ → List ℕ → List ℕ
left_of at [] = []
left_of at (k ∷ ks) = if nat_lt k at then k ∷ ks else left_of at ks

abbrev pub dropped_of : ℕ → List ℕ → ℕ
dropped_of at [] = 0
dropped_of at (k ∷ ks) = if nat_lt k at then 0 else 1 + dropped_of at ks

-- They were dropped, in 4 instructions each and 3, and nothing else has changed.
pub record Cuts (p : Program) (f w : ℕ) (memory typed output : List ℕ) (drawn at : ℕ) (cells : ℕ → ℕ) (ks : List ℕ) : Type 0 where
  pub memory' : List ℕ
  pub cells' : ℕ → ℕ
  pub holds : Holds p.world.layout memory' cells'
  pub chain : Chain cells' (cells' choice_reg) (left_of at ks)
  pub others : (k : ℕ) → k ≢ choice_reg → cells' k ≡ cells k
  pub count : ℕ
  pub few : count ≤ 4 * dropped_of at ks + 3
  pub runs : Runs p f w CUT_ACTS CUT_ACTS (state memory (at_place at ∷ []) typed drawn output) (Returns 0)
      (state memory' (at_place at ∷ []) typed drawn output) count

-- So they are wherever there are choices.
abbrev pub CutWorks : Type 0
CutWorks = (p : Program) → IsMapped p → (f w : ℕ) (memory typed output : List ℕ) (drawn at : ℕ) → at < 16384 → (cells : ℕ → ℕ) →
    Holds p.world.layout memory cells → (ks : List ℕ) → Chain cells (cells choice_reg) ks → Cuts p f w memory typed output drawn at cells ks

-- The newest inner construct was left: the one around it is the newest, and the choices inside it are dropped, in 4 instructions each and 8.
pub record Commits (p : Program) (f w : ℕ) (memory typed output : List ℕ) (drawn at : ℕ) (cells : ℕ → ℕ) (ks : List ℕ) : Type 0 where
  pub memory' : List ℕ
  pub cells' : ℕ → ℕ
  pub holds : Holds p.world.layout memory' cells'
  pub inner : cells' inner_reg ≡ cells (heap_at + (at + 3))
  pub chain : Chain cells' (cells' choice_reg) (left_of at ks)
  pub others : (k : ℕ) → k ≢ choice_reg → k ≢ inner_reg → cells' k ≡ cells k
  pub count : ℕ
  pub few : count ≤ 4 * dropped_of at ks + 8
  pub runs : Runs p f w COMMIT_ACTS COMMIT_ACTS (state memory (0 ∷ []) typed drawn output) (Returns 0)
      (state memory' (at_place at ∷ []) typed drawn output) count

-- So it is wherever there is one, also where it has no cells yet.
abbrev pub CommitWorks : Type 0
CommitWorks = (p : Program) → HasRunTime p → (f w : ℕ) → 1 ≤ f → 1 ≤ w → (memory typed output : List ℕ) (drawn at : ℕ) →
    at ≤ 10000 →
    (cells : ℕ → ℕ) → Holds p.world.layout memory cells → cells inner_reg ≡ at_place at → (ks : List ℕ) →
    Chain cells (cells choice_reg) ks →
    Commits p f w memory typed output drawn at cells ks

-- ## Going back

-- The newest choice was gone back to, in 6 instructions for each binding that was undone and 32: what it keeps is in the registers, the twelve cells
-- behind it are arguments, and the variables at these places, the newest on the trail, are unbound. The other registers behind the arguments stay.
pub record GoesBack (p : Program) (f w : ℕ) (memory typed output : List ℕ) (drawn at : ℕ) (cells : ℕ → ℕ) (old newer : List ℕ) : Type 0 where
  pub memory' : List ℕ
  pub cells' : ℕ → ℕ
  pub locals' : List ℕ
  pub holds : Holds p.world.layout memory' cells'
  pub trail : cells' trail_reg ≡ length old
  pub mark : cells' mark_reg ≡ at_place at
  pub heap : cells' heap_reg ≡ at
  pub frame : cells' frame_reg ≡ cells (heap_at + (at + 2))
  pub choice : cells' choice_reg ≡ cells (heap_at + (at + 0))
  pub inner : cells' inner_reg ≡ cells (heap_at + (at + 3))
  pub stop : cells' stop_reg ≡ cells (heap_at + (at + 4))
  pub back : cells' back_reg ≡ cells (heap_at + (at + 7))
  pub cut : cells' cut_reg ≡ at_place at
  pub many : cells' many_reg ≡ cells (heap_at + (at + 8))
  pub key : cells' key_reg ≡ cells (heap_at + (at + 9))
  pub begin : cells' begin_reg ≡ 0
  pub gather : cells' gather_reg ≡ cells (heap_at + (at + 6))
  pub args : (i : ℕ) → i < 12 → cells' (args_reg + i) ≡ cells (heap_at + (at + (10 + i)))
  pub words : (k : ℕ) → k < 10000 → cells' (heap_at + k) ≡ undone newer cells (heap_at + k)
  pub others : (k : ℕ) → trail_at ≤ k → cells' k ≡ cells k
  pub rest : (k : ℕ) → args_reg + 12 ≤ k → k < heap_at → k ≢ gather_reg → cells' k ≡ cells k
  pub count : ℕ
  pub few : count ≤ 6 * length newer + 32
  pub runs : Runs p f w FAIL_ACTS FAIL_ACTS (state memory (0 ∷ 0 ∷ 0 ∷ 0 ∷ []) typed drawn output) (Returns (cells (heap_at + (at + 1))))
      (state memory' locals' typed drawn output) count

-- So it is where there is a choice, whose trail is the one at hand without its newest places; without one the routine of a run that has failed is
-- answered.
pub record FailWorks : Type 0 where
  pub goes : (p : Program) → HasRunTime p → (f w : ℕ) → 0 < f → 2 ≤ w → (memory typed output : List ℕ) (drawn at : ℕ) (cells : ℕ → ℕ)
      (old newer : List ℕ) → Holds p.world.layout memory cells → cells choice_reg ≡ at_place at → at + 10 ≤ 10000 →
      cells (heap_at + (at + 5)) ≡ length old → cells trail_reg ≡ length (newer ++ old) → length (newer ++ old) ≤ 2000 →
      OnTrail cells (newer ++ old) →
      GoesBack p f w memory typed output drawn at cells old newer
  pub has_none : (p : Program) → IsMapped p → (f w : ℕ) (memory typed output : List ℕ) (drawn : ℕ) (cells : ℕ → ℕ) →
      Holds p.world.layout memory cells →
      cells choice_reg ≡ 0 →
      Runs p f w FAIL_ACTS FAIL_ACTS (state memory (0 ∷ 0 ∷ 0 ∷ 0 ∷ []) typed drawn output) (Returns (p.names.routine FAILED))
      (state memory (0 ∷ 0 ∷ 0 ∷ 0 ∷ []) typed drawn output) 2

-- ## Stopping

-- A stoppable part was left by a stop, in 4 instructions for each choice that is dropped, 6 for each binding that is undone, and 18: the choices that
-- aren't older than its place are dropped, what its block keeps is in the registers, and the variables at these places, the newest on the trail, are
-- unbound.
pub record Unstops (p : Program) (f w : ℕ) (memory typed output : List ℕ) (drawn at : ℕ) (cells : ℕ → ℕ) (ks old newer : List ℕ) : Type 0 where
  pub memory' : List ℕ
  pub cells' : ℕ → ℕ
  pub locals' : List ℕ
  pub holds : Holds p.world.layout memory' cells'
  pub trail : cells' trail_reg ≡ length old
  pub mark : cells' mark_reg ≡ at_place at
  pub heap : cells' heap_reg ≡ at
  pub frame : cells' frame_reg ≡ cells (heap_at + (at + 2))
  pub chain : Chain cells (cells' choice_reg) (left_of at ks)
  pub inner : cells' inner_reg ≡ cells (heap_at + (at + 3))
  pub stop : cells' stop_reg ≡ cells (heap_at + (at + 4))
  pub gather : cells' gather_reg ≡ cells (heap_at + (at + 6))
  pub words : (k : ℕ) → k < 10000 → cells' (heap_at + k) ≡ undone newer cells (heap_at + k)
  pub others : (k : ℕ) → k ≢ trail_reg → k ≢ mark_reg → k ≢ heap_reg → k ≢ frame_reg → k ≢ choice_reg → k ≢ inner_reg →
      k ≢ stop_reg → k ≢ gather_reg → (heap_at ≤ k → trail_at ≤ k) → cells' k ≡ cells k
  pub count : ℕ
  pub few : count ≤ 4 * dropped_of at ks + 6 * length newer + 18
  pub runs : Runs p f w UNSTOP_ACTS UNSTOP_ACTS (state memory (0 ∷ 0 ∷ 0 ∷ 0 ∷ []) typed drawn output) (Returns (cells (heap_at + (at + 1))))
      (state memory' locals' typed drawn output) count

-- So it is where there is a stoppable part, whose trail is the one at hand without its newest places; without one the routine of a run that was stopped
-- is answered.
pub record UnstopWorks : Type 0 where
  pub goes : (p : Program) → HasRunTime p → (f w : ℕ) → 0 < f → 2 ≤ w → (memory typed output : List ℕ) (drawn at : ℕ) (cells : ℕ → ℕ)
      (ks old newer : List ℕ) → Holds p.world.layout memory cells → cells stop_reg ≡ at_place at → at + 10 ≤ 10000 →
      Chain cells (cells choice_reg) ks → cells (heap_at + (at + 5)) ≡ length old → cells trail_reg ≡ length (newer ++ old) →
      length (newer ++ old) ≤ 2000 → OnTrail cells (newer ++ old) → Unstops p f w memory typed output drawn at cells ks old newer
  pub has_none : (p : Program) → IsMapped p → (f w : ℕ) (memory typed output : List ℕ) (drawn : ℕ) (cells : ℕ → ℕ) →
      Holds p.world.layout memory cells → cells stop_reg ≡ 0 →
      Runs p f w UNSTOP_ACTS UNSTOP_ACTS (state memory (0 ∷ 0 ∷ 0 ∷ 0 ∷ []) typed drawn output) (Returns (p.names.routine STOPPED))
      (state memory (0 ∷ 0 ∷ 0 ∷ 0 ∷ []) typed drawn output) 2
