-- The routine that undoes bindings leaves the words of undoing.
use Rattle.std.proofs.Common.{◌≡◌, ◌≢◌, ℕ, suc, ◌+◌, ◌≤◌, true, false, List, [], ◌∷◌, ◌++◌, drop, length, refl, ap, ◌∙◌, arith, length-append}
use Rattle.std.specs.Prelude.{◌==◌, if◌then◌else◌}
use Rattle.std.proofs.lemmas.Bool.{eq-eqb, ne_eqb, cond-false}
use Rattle.z_lang.specs.declared.act.Atom.TheVariants as atoms
use Rattle.z_lang.specs.declared.act.Function.TheVariants as functions
use Rattle.z_lang.specs.declared.act.Comparison.TheVariants as comparisons
use Rattle.z_lang.specs.declared.act.Width.TheVariants as widths
use Rattle.z_lang.specs.State.{State, Program}
use Rattle.z_lang.specs.Runs.{at_label, goes, taken, passed, done, returns, behind_label}
use Rattle.dg_rt.specs.declared.unify.TheConstants.{UNDO_ACTS}
use Rattle.dg_rt.specs.Cells.{with_cell, replaced, Holds}
use Rattle.dg_rt.specs.Areas.{heap_at, trail_at, IsMapped, state}
use Rattle.dg_rt.specs.Back.{at_place, OnTrail}
use Rattle.dg_rt.specs.Undoes.{InHeap, Unwinds}
use Rattle.dg_rt.proofs.Cells.{holds_with, reads_cell, writes_cell}
use Rattle.dg_rt.proofs.Following.{word, tested, computes, writes, trail_register, put_trail, local_1, local_2, put_2}
use Rattle.dg_rt.proofs.Backs.{one_first, undone_same, trail_stays}
use Rattle.dg_rt.proofs.Taking.{less_one}

module _ (p : Program) (map : IsMapped p) (f w : ℕ) (typed output : List ℕ) (drawn : ℕ) (old : List ℕ) where
  abbrev left : ℕ
  left = length old

  abbrev now : List ℕ → ℕ → State
  now memory x = state memory (left ∷ x ∷ []) typed drawn output

  unwinds : (newer : List ℕ) (memory : List ℕ) (cells : ℕ → ℕ) (x : ℕ) → Holds p.world.layout memory cells → cells 1 ≡ length (newer ++ old) → length (newer ++ old) ≤ 2000 → OnTrail cells (newer ++ old) → InHeap newer → Unwinds p f w (drop 1 UNDO_ACTS) memory typed output drawn left x cells newer
  unfolding behind_label
  unwinds [] memory cells x h e le on small = record {
    memory' = memory;
    cells' = cells;
    locals' = left ∷ x ∷ [];
    count = 2;
    holds = h;
    height = e;
    words = λ k lt. refl;
    others = λ k ne far. refl;
    few = omega arith;
    runs = taken (tested p (now memory x) comparisons.Equal (atoms.Var 17) (atoms.Var 1) true (cells 1) left true (trail_register p (now memory x) cells h (let r = map.room in omega arith)) (local_1 p memory left (x ∷ []) typed drawn output) (eq-eqb (cells 1) left e)) refl (returns refl);
  }
  unwinds (j ∷ js) memory cells x h e le on small =
      let room = map.room in
      let n = length (js ++ old) in
      let some = length-append js old in
      let m1 = with_cell memory 1 n in
      let c1 = replaced cells 1 n in
      let v = at_place j in
      let m2 = with_cell m1 (heap_at + j) v in
      let c2 = replaced c1 (heap_at + j) v in
      let low = small.0 in
      let h1 = holds_with p.world.layout memory cells 1 n h (omega arith) (omega arith) in
      let h2 = holds_with p.world.layout m1 c1 (heap_at + j) v h1 (omega arith) (omega arith) in
      let first : (k : ℕ) → k ≢ 1 → c1 k ≡ cells k = λ k ne. cond-false (k == 1) n (cells k) (ne_eqb k 1 ne) in
      let second : (k : ℕ) → k ≢ heap_at + j → c2 k ≡ c1 k = λ k ne. cond-false (k == heap_at + j) v (c1 k) (ne_eqb k (heap_at + j) ne) in
      let here : c1 (trail_at + n) ≡ v = first (trail_at + n) (λ q. (omega arith)) ∙ on.0.0 in
      let r = unwinds js m2 c2 v h2 (second 1 (λ q. (omega arith))) (omega arith)
      (trail_stays cells c2 (js ++ old) (λ i lt. second (trail_at + i) (λ q. (omega arith)) ∙ first (trail_at + i) (λ q. (omega arith))) on.1) small.1 in
      let few = r.few in
      record {
        memory' = r.memory';
        cells' = r.cells';
        locals' = r.locals';
        count = suc (suc (suc (suc (suc r.count))));
        holds = r.holds;
        height = r.height;
        words = λ k lt. r.words k lt ∙ one_first j js c1 c2 (heap_at + k) refl ∙ ap (λ (z : ℕ). if heap_at + k == heap_at + j then at_place j else z) (undone_same js cells c1 (heap_at + k) (first (heap_at + k) (λ q. (omega arith))));
        others = λ k ne far. r.others k ne far ∙ second k (λ q. (let z : 10315 ≤ k = far (omega arith) in omega arith)) ∙ first k ne;
        few = omega arith;
        runs = passed (tested p (now memory x) comparisons.Equal (atoms.Var 17) (atoms.Var 1) true (cells 1) left false (trail_register p (now memory x) cells h (omega arith)) (local_1 p memory left (x ∷ []) typed drawn output) (ne_eqb (cells 1) left (λ (i : cells 1 ≡ left). (omega arith))))
            (done (computes p (now memory x) (now m1 x) 17 functions.Sub (atoms.Var 17) (atoms.Num 1) (cells 1) 1 n (trail_register p (now memory x) cells h (omega arith)) refl (less_one p (cells 1) n e (h.words 1) memory) (put_trail p (now memory x) n h.globals))
            (done (computes p (now m1 x) (now m1 v) 2 functions.Word (atoms.Num 20694) (atoms.Var 17) 20694 n v refl (trail_register p (now m1 x) c1 h1 (omega arith)) (reads_cell p.world.layout m1 c1 20694 n (trail_at + n) h1 (omega arith) (omega arith) ∙ ap word here) (put_2 p m1 left x v [] typed drawn output))
            (done (writes p (now m1 v) widths.Word (atoms.Num 670) (atoms.Var 2) (atoms.Var 2) 670 v v m2 refl (local_2 p m1 left v [] typed drawn output) (local_2 p m1 left v [] typed drawn output) (writes_cell p.world.layout m1 c1 670 v v (heap_at + j) h1 (omega arith) (omega arith)))
            (goes refl r.runs))));
      }

  -- The routine, from its beginning.
  pub undo_works : (newer : List ℕ) (memory : List ℕ) (cells : ℕ → ℕ) (x : ℕ) → Holds p.world.layout memory cells → cells 1 ≡ length (newer ++ old) → length (newer ++ old) ≤ 2000 → OnTrail cells (newer ++ old) → InHeap newer → Unwinds p f w UNDO_ACTS memory typed output drawn left x cells newer
  undo_works newer memory cells x h e le on small = let r = unwinds newer memory cells x h e le on small in record { memory' = r.memory'; cells' = r.cells'; locals' = r.locals'; count = r.count; runs = at_label r.runs; holds = r.holds; height = r.height; words = r.words; others = r.others; few = r.few }
