-- The routine of the last query of a rule does so.
use Rattle.std.proofs.Common.{◌≡◌, ◌≢◌, ℕ, suc, ◌+◌, ◌*◌, ◌%◌, ◌≤◌, true, false, List, [], ◌∷◌, drop, refl, ap, ◌∙◌, arith}
use Rattle.std.proofs.lemmas.Bool.{ne_eqb}
use Rattle.z_lang.specs.declared.act.Atom.TheVariants as atoms
use Rattle.z_lang.specs.declared.act.Function.TheVariants as functions
use Rattle.z_lang.specs.declared.act.Comparison.TheVariants as comparisons
use Rattle.z_lang.specs.State.{State, Program, value}
use Rattle.z_lang.specs.Runs.{ActsRun as Runs, ActsOutcome as Outcome, Returns, taken, passed, done, returns, behind_label}
use Rattle.dg_rt.specs.declared.queries.TheConstants.{TAIL_CALL_ACTS}
use Rattle.dg_rt.specs.Cells.{with_cell, replaced, Holds}
use Rattle.dg_rt.specs.Areas.{heap_at, state}
use Rattle.dg_rt.specs.Back.{at_place}
use Rattle.dg_rt.specs.RunTime.{HasRunTime}
use Rattle.dg_rt.specs.Queries.{LeavesFirst, Stays, TailCallWorks}
use Rattle.dg_rt.proofs.Cells.{reads_cell, other_cell, same_cell}
use Rattle.dg_rt.proofs.Following.{word, tested, computes, copies, register, puts, local_1, local_2, put_1, put_2}
use Rattle.dg_rt.proofs.CaptureSteps.{leaves as remains}

module _ (p : Program) (has : HasRunTime p) (f w : ℕ) (memory typed output : List ℕ) (drawn x : ℕ) (c : ℕ → ℕ) (h : Holds p.world.layout memory c) where
  abbrev st : List ℕ → ℕ → ℕ → State
  st m a b = state m (a ∷ b ∷ []) typed drawn output

  -- No inner construct is left.
  abbrev m1 : List ℕ
  m1 = with_cell memory 6 0

  abbrev c1 : ℕ → ℕ
  c1 = replaced c 6 0

  record Cleared : Type 0 where
    holds : Holds p.world.layout m1 c1
    runs : (b : ℕ) → Runs p f w TAIL_CALL_ACTS (drop 9 TAIL_CALL_ACTS) (st memory x b) (Returns x) (st m1 x b) 2

  cleared : Cleared
  cleared =
      let room = has.mapped.room in
      let put = puts p (st memory x 0) c 22 0 h (omega arith) (omega arith) (omega arith) (omega arith) in
      record {
        holds = put.holds;
        runs = λ b. let put' = puts p (st memory x b) c 22 0 h (omega arith) (omega arith) (omega arith) (omega arith) in done (copies p (st memory x b) (st m1 x b) 22 (atoms.Num 0) 0 refl put'.put_is) (returns (local_1 p m1 x (b ∷ []) typed drawn output));
      }

  -- without a frame
  without : c 4 ≡ 0 → Stays p f w memory typed output drawn x c 3
  unfolding behind_label
  without none =
      let room = has.mapped.room in
      let r = cleared in
      record {
        memory' = m1;
        cells' = c1;
        locals' = x ∷ 0 ∷ [];
        holds = r.holds;
        inner = same_cell c 6 0;
        others = λ k ne. other_cell c 6 0 k ne;
        count = 3;
        few = omega arith;
        runs = taken (tested p (st memory x 0) comparisons.Equal (atoms.Var 20) (atoms.Num 0) true 0 0 true (register p (st memory x 0) c 20 h (omega arith) (omega arith) (omega arith) ∙ ap word none) refl refl) refl (r.runs 0);
      }

  module _ (at n b : ℕ) (here : c 4 ≡ at_place at) (fits : at + 6 ≤ 10000) (size_is : c (heap_at + (at + 4)) ≡ 2 * n + b) (few_n : n ≤ 10000) (few_b : b ≤ 1) where
    abbrev v : ℕ
    v = at_place at

    abbrev size : ℕ
    size = 2 * n + b

    frame_is : (m : List ℕ) (c' : ℕ → ℕ) → Holds p.world.layout m c' → c' 4 ≡ c 4 → (d e : ℕ) → value p (st m d e) (atoms.Var 20) ≡ word v
    frame_is m c' hh same d e = let room = has.mapped.room in register p (st m d e) c' 20 hh (omega arith) (omega arith) (omega arith) ∙ ap word (same ∙ here)

    -- up to the test
    to_test : (o : Outcome) (s' : State) (k : ℕ) → Runs p f w TAIL_CALL_ACTS (drop 3 TAIL_CALL_ACTS) (st memory x b) o s' k → Runs p f w TAIL_CALL_ACTS TAIL_CALL_ACTS (st memory x 0) o s' (suc (suc (suc k)))
    to_test o s' k rest =
        let room = has.mapped.room in
        let here0 = frame_is memory c h refl in
        passed (tested p (st memory x 0) comparisons.Equal (atoms.Var 20) (atoms.Num 0) true v 0 false (here0 x 0) refl (ne_eqb v 0 (λ (z : v ≡ 0). (omega arith))))
        (done (computes p (st memory x 0) (st memory x size) 2 functions.Word (atoms.Num 678) (atoms.Var 20) 678 v size refl (here0 x 0) (reads_cell p.world.layout memory c 678 v (heap_at + (at + 4)) h (omega arith) (omega arith) ∙ ap word size_is) (put_2 p memory x 0 size [] typed drawn output))
        (done (computes p (st memory x size) (st memory x b) 2 functions.Mod (atoms.Var 2) (atoms.Num 2) size 2 b (local_2 p memory x size [] typed drawn output) refl (remains p memory size 2 (omega arith) (omega arith) (omega arith) ∙ ap word (let q : size % 2 ≡ b = omega arith in q)) (put_2 p memory x size b [] typed drawn output))
        rest))

  -- The frame stays.
  stays : (at n : ℕ) → c 4 ≡ at_place at → at + 6 ≤ 10000 → c (heap_at + (at + 4)) ≡ 2 * n → n ≤ 10000 → Stays p f w memory typed output drawn x c 6
  unfolding behind_label
  stays at n here fits size_is few_n =
      let r = cleared in
      record {
        memory' = m1;
        cells' = c1;
        locals' = x ∷ 0 ∷ [];
        holds = r.holds;
        inner = same_cell c 6 0;
        others = λ k ne. other_cell c 6 0 k ne;
        count = 6;
        few = omega arith;
        runs = to_test at n 0 here fits (size_is ∙ omega arith) few_n (omega arith) (Returns x) (st m1 x 0) 3
            (taken (tested p (st memory x 0) comparisons.Equal (atoms.Var 2) (atoms.Num 0) true 0 0 true (local_2 p memory x 0 [] typed drawn output) refl refl) refl (r.runs 0));
      }

  -- The frame is left.
  leaves_first : (at n : ℕ) → c 4 ≡ at_place at → at + 6 ≤ 10000 → c (heap_at + (at + 4)) ≡ 2 * n + 1 → n ≤ 10000 → LeavesFirst p f w memory typed output drawn at x c
  leaves_first at n here fits size_is few_n =
      let room = has.mapped.room in
      let v = at_place at in
      let back = c (heap_at + (at + 1)) in
      let around = c (heap_at + (at + 3)) in
      let behind = c (heap_at + (at + 0)) in
      let put6 = puts p (st memory back 1) c 22 around h (omega arith) (omega arith) (omega arith) (h.words (heap_at + (at + 3))) in
      let m2 = with_cell memory 6 around in
      let c2 = replaced c 6 around in
      let put4 = puts p (st m2 back 1) c2 20 behind put6.holds (omega arith) (omega arith) (omega arith) (h.words (heap_at + (at + 0))) in
      let m3 = with_cell m2 4 behind in
      let c3 = replaced c2 4 behind in
      let apart : (k : ℕ) → k ≢ 6 → c2 k ≡ c k = λ k ne. other_cell c 6 around k ne in
      let frame = frame_is at n 1 here fits size_is few_n (omega arith) in
      record {
        memory' = m3;
        cells' = c3;
        locals' = back ∷ 1 ∷ [];
        holds = put4.holds;
        frame = same_cell c2 4 behind;
        inner = other_cell c2 4 behind 6 (λ e. (omega arith)) ∙ same_cell c 6 around;
        others = λ k no4 no6. other_cell c2 4 behind k no4 ∙ apart k no6;
        runs = to_test at n 1 here fits size_is few_n (omega arith) (Returns back) (st m3 back 1) 5
            (passed (tested p (st memory x 1) comparisons.Equal (atoms.Var 2) (atoms.Num 0) true 1 0 false (local_2 p memory x 1 [] typed drawn output) refl refl)
            (done (computes p (st memory x 1) (st memory back 1) 1 functions.Word (atoms.Num 672) (atoms.Var 20) 672 v back refl (frame memory c h refl x 1) (reads_cell p.world.layout memory c 672 v (heap_at + (at + 1)) h (omega arith) (omega arith)) (put_1 p memory x back (1 ∷ []) typed drawn output))
            (done (computes p (st memory back 1) (st m2 back 1) 22 functions.Word (atoms.Num 676) (atoms.Var 20) 676 v around refl (frame memory c h refl back 1) (reads_cell p.world.layout memory c 676 v (heap_at + (at + 3)) h (omega arith) (omega arith)) put6.put_is)
            (done (computes p (st m2 back 1) (st m3 back 1) 20 functions.Word (atoms.Num 670) (atoms.Var 20) 670 v behind refl (frame m2 c2 put6.holds (apart 4 (λ e. (omega arith))) back 1) (reads_cell p.world.layout m2 c2 670 v (heap_at + (at + 0)) put6.holds (omega arith) (omega arith) ∙ ap word (apart (heap_at + (at + 0)) (λ e. (omega arith)))) put4.put_is)
            (returns (local_1 p m3 back (1 ∷ []) typed drawn output))))));
      }

pub tail_call_works : TailCallWorks
tail_call_works = record {
  leaves = λ p has f w memory typed output drawn at n x c h here fits size_is few. leaves_first p has f w memory typed output drawn x c h at n here fits size_is few;
  stays = λ p has f w memory typed output drawn at n x c h here fits size_is few. stays p has f w memory typed output drawn x c h at n here fits size_is few;
  has_none = λ p has f w memory typed output drawn x c h none. without p has f w memory typed output drawn x c h none;
}
