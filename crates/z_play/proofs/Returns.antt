-- Returns and branches.
use Rattle.std.proofs.Common.{◌≡◌, ◌≢◌, ◌<◌, ◌≤◌, ◌⊎◌, inl, inr, ℕ, zero, suc, ◌+◌, ◌-◌, Bool, true, false, cond, eqb, List, [], ◌∷◌, length, drop, Some, None, Result, Ok, Err, IsOk, refl, ◌∙◌, arith}
use Rattle.std.proofs.lemmas.Bool.{ne_eqb, le-ltb, lt-ltb}
use Rattle.std.specs.Prelude.{pos, ◌||◌}
use lib.IntN.{ℤ, negsuc}
use Rattle.z_model.specs.declared.fault.ZFault.{ZFault}
use Rattle.z_model.specs.declared.fault.ZFault.TheVariants.{BadReturn}
use Rattle.z_model.specs.declared.end.Effect.{Effect}
use Rattle.z_model.specs.declared.end.Effect.TheVariants.{Goes, PrintsLine}
use Rattle.z_model.specs.declared.story.Layout.{Layout}
use Rattle.z_model.specs.Machine.{Frame, Machine, stored_if}
use Rattle.z_model.specs.Flow.{returned, return_to, in_frames, frames_thrown, branch_taken, jumped}
use Rattle.z_model.specs.declared.end.OpenTable.{OpenTable}
use Rattle.z_model.specs.Streams.{codes_in, into_table}
use Rattle.z_model.specs.Effects.{goes, let_out, print_effect, then_returned, prints_line}
use Rattle.z_model.specs.Decode.{◌>>=◌}
use Rattle.z_model.specs.Text.{string_at, print_fault}
use Rattle.z_play.specs.inside.Faults.{fault_of}
use Rattle.z_play.specs.inside.Effects.{into_first, line_into}
use Rattle.z_play.specs.declared.engine.Engine.{Engine}
use Rattle.z_play.specs.View.{machine, left_to, Left, callers_of}

pub no_caller : (e : Engine) (layout : Layout) (x : ℕ) → e.depth ≡ 0 → returned layout (machine e) x ≡ Err BadReturn
unfolding returned
no_caller e layout x none =
    let empty : callers_of e ≡ [] = rw none refl in
    rw empty refl

left_case : (layout : Layout) (old new : Machine) (fs : List Frame) (x : ℕ) → left_to old fs new → return_to layout old fs x ≡ stored_if layout new old.here.store x
left_case layout old new [] x left = absurd left
left_case layout old new (f ∷ fs) x left = rw left refl

pub left_returns : (layout : Layout) (old new : Machine) (x : ℕ) → Left old new → returned layout old x ≡ stored_if layout new old.here.store x
unfolding returned
left_returns layout old new x left = left_case layout old new old.callers x left

pub branch_zero : (layout : Layout) (m : Machine) (end : ℕ) (z : ℤ) → z ≡ pos 0 → branch_taken layout m end z ≡ returned layout m 0
unfolding branch_taken
branch_zero layout m end z e = rw e refl

pub branch_one : (layout : Layout) (m : Machine) (end : ℕ) (z : ℤ) → z ≡ pos 1 → branch_taken layout m end z ≡ returned layout m 1
unfolding branch_taken
branch_one layout m end z e = rw e refl

pub branch_far : (layout : Layout) (m : Machine) (end : ℕ) (z : ℤ) → (z ≡ pos 0 → ⊥) → (z ≡ pos 1 → ⊥) → branch_taken layout m end z ≡ jumped m end z
unfolding branch_taken
branch_far layout m end (pos zero) p q = absurd (p refl)
branch_far layout m end (pos (suc zero)) p q = absurd (q refl)
branch_far layout m end (pos (suc (suc n))) p q = refl
branch_far layout m end (negsuc n) p q = refl

-- ---- a text that a newline and a return follow

tried : (r : Result Machine ZFault) (p : Effect × Machine) (fault : ZFault) → fault_of r ≡ Some fault → (r >>= λ after. Ok p) ≡ Err fault
tried (Ok after) p fault bad = absurd cc
tried (Err other) p fault bad = cc

tried_well : (r : Result Machine ZFault) (p : Effect × Machine) → fault_of r ≡ None → ((r >>= λ after. Ok p) ≡ Ok p) × IsOk r
tried_well (Ok after) p may = (refl, refl)
tried_well (Err fault) p may = absurd cc

module _ (layout : Layout) (m : Machine) (at : ℕ) where
  -- the text behind whose fault a newline and a return follow
  abbrev line_let_out : List OpenTable → Result (Effect × Machine) ZFault
  line_let_out tables = let_out layout tables (PrintsLine at) m >>= λ p. returned layout p.1 1 >>= λ after. Ok (then_returned tables p after)

  none_open : (tables : List OpenTable) → tables ≡ [] → line_let_out tables ≡ (returned layout m 1 >>= λ after. Ok (PrintsLine at, m))
  unfolding let_out
  none_open [] e = refl
  none_open (t ∷ ts) e = absurd cc

  some_open : (tables : List OpenTable) → 0 < length tables → line_let_out tables ≡ (into_first layout m tables (codes_in (PrintsLine at) m) >>= λ after. goes (returned layout after 1))
  unfolding let_out
  some_open [] some = absurd (omega arith)
  some_open (t ∷ ts) some = by_into (into_table layout m t ts (codes_in (PrintsLine at) m))
    where
      by_into : (r : Result Machine ZFault) → (goes r >>= λ p. returned layout p.1 1 >>= λ after. Ok (then_returned (t ∷ ts) p after)) ≡ (r >>= λ q. goes (returned layout q 1))
      by_into (Ok q) = by_return (returned layout q 1)
        where
          by_return : (r : Result Machine ZFault) → (r >>= λ after. Ok (then_returned (t ∷ ts) (Goes, q) after)) ≡ goes r
          by_return (Ok after) = refl
          by_return (Err fault) = refl
      by_into (Err fault) = refl

  pub line_refused : (fault : ZFault) → print_fault (string_at m.memory at) ≡ Some fault → prints_line layout m at ≡ Err fault
  unfolding prints_line print_effect
  line_refused fault bad = rw bad refl

  pub line_kept : (fault : ZFault) → m.tables ≡ [] → print_fault (string_at m.memory at) ≡ None → fault_of (returned layout m 1) ≡ Some fault → prints_line layout m at ≡ Err fault
  unfolding prints_line print_effect
  line_kept fault none good bad = rw good (none_open m.tables none ∙ tried (returned layout m 1) (PrintsLine at, m) fault bad)

  pub line_prints : m.tables ≡ [] → print_fault (string_at m.memory at) ≡ None → fault_of (returned layout m 1) ≡ None → (prints_line layout m at ≡ Ok (PrintsLine at, m)) × IsOk (returned layout m 1)
  unfolding prints_line print_effect
  line_prints none good may =
      let well = tried_well (returned layout m 1) (PrintsLine at, m) may in
      rw good (none_open m.tables none ∙ well.0, well.1)

  pub line_tabled : 0 < length m.tables → print_fault (string_at m.memory at) ≡ None → prints_line layout m at ≡ line_into layout m (PrintsLine at)
  unfolding prints_line print_effect
  line_tabled some good = rw good (some_open m.tables some)

-- ---- what is let out

pub nothing_open : (layout : Layout) (tables : List OpenTable) (effect : Effect) (m : Machine) → tables ≡ [] → let_out layout tables effect m ≡ Ok (effect, m)
unfolding let_out
nothing_open layout [] effect m e = refl
nothing_open layout (t ∷ ts) effect m e = absurd cc

pub table_open : (layout : Layout) (tables : List OpenTable) (effect : Effect) (m : Machine) → 0 < length tables → let_out layout tables effect m ≡ goes (into_first layout m tables (codes_in effect m))
unfolding let_out
table_open layout [] effect m some = absurd (omega arith)
table_open layout (t ∷ ts) effect m some = refl

-- ---- frames that are dropped

pub one_dropped : (m : Machine) (frames : List Frame) (k : ℕ) → k + 1 < length frames → in_frames (in_frames m (drop k frames)) (in_frames m (drop k frames)).callers ≡ in_frames m (drop (k + 1) frames)
one_dropped m [] k lt = absurd (omega arith)
one_dropped m (f ∷ []) k lt = absurd (omega arith)
one_dropped m (f ∷ g ∷ fs) zero lt = refl
one_dropped m (f ∷ g ∷ fs) (suc k) lt =
    let e : suc k + 1 ≡ suc (k + 1) = omega arith in
    rw e (one_dropped m (g ∷ fs) k (omega arith))

pub no_such_frame : (layout : Layout) (m : Machine) (x frame : ℕ) → (frame ≡ 0) ⊎ (length m.callers < frame) → frames_thrown layout m x frame ≡ Err BadReturn
unfolding frames_thrown
no_such_frame layout m x frame (inl e) = rw e refl
no_such_frame layout m x frame (inr lt) = rw (lt-ltb (length m.callers) frame lt) (by_test (eqb frame 0))
  where
    by_test : (t : Bool) → cond (t || true) (Err BadReturn) (returned layout (in_frames m (drop (length m.callers - frame) (m.here ∷ m.callers))) x) ≡ Err BadReturn
    by_test true = refl
    by_test false = refl

pub is_thrown : (layout : Layout) (m : Machine) (x frame : ℕ) → frame ≢ 0 → frame ≤ length m.callers → frames_thrown layout m x frame ≡ returned layout (in_frames m (drop (length m.callers - frame) (m.here ∷ m.callers))) x
unfolding frames_thrown
is_thrown layout m x frame some le = rw (ne_eqb frame 0 some, le-ltb (length m.callers) frame le) refl
