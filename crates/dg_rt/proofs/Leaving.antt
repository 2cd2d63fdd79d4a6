-- The routine that answers a rule does so.
use Rattle.std.proofs.Common.{◌≡◌, ◌≢◌, ℕ, suc, ◌+◌, ◌*◌, ◌%◌, ◌<◌, ◌≤◌, Bool, true, false, List, [], ◌∷◌, drop, refl, sym, ap, ◌∙◌, subst, arith}
use Rattle.std.proofs.lemmas.Bool.{ne_eqb}
use Rattle.z_lang.specs.declared.act.Atom.TheVariants as atoms
use Rattle.z_lang.specs.declared.act.Function.TheVariants as functions
use Rattle.z_lang.specs.declared.act.Comparison.TheVariants as comparisons
use Rattle.z_lang.specs.State.{State, Program, value}
use Rattle.z_lang.specs.Runs.{ActsRun as Runs, ActsOutcome as Outcome, Returns, at_label, taken, passed, done, calls, returns, behind_label}
use Rattle.dg_rt.specs.declared.numbers.TheConstants.{FAIL}
use Rattle.dg_rt.specs.declared.queries.TheConstants.{LEAVE_ACTS}
use Rattle.dg_rt.specs.Cells.{with_cell, replaced, Holds, bit}
use Rattle.dg_rt.specs.Areas.{heap_at, IsMapped, state}
use Rattle.dg_rt.specs.Back.{at_place}
use Rattle.dg_rt.specs.RunTime.{HasRunTime}
use Rattle.dg_rt.specs.Choices.{Chain}
use Rattle.dg_rt.specs.Queries.{Leaves, LeaveWorks}
use Rattle.dg_rt.proofs.Cells.{reads_cell, other_cell, same_cell}
use Rattle.dg_rt.proofs.Following.{word, tested, computes, register, puts}
use Rattle.dg_rt.proofs.Locals.{get_1, get_2, get_3, set_1, set_2, set_3}
use Rattle.dg_rt.proofs.Standing.{cut_at}
use Rattle.dg_rt.proofs.CaptureSteps.{leaves as remains}
use Rattle.dg_rt.proofs.Cutting.{chain_same, cut_works}

pub bit_few : (b : Bool) → bit b ≤ 1
bit_few true = omega arith
bit_few false = omega arith

module _ (p : Program) (has : HasRunTime p) (f w : ℕ) (memory typed output : List ℕ) (drawn at to n b : ℕ) (c : ℕ → ℕ) (h : Holds p.world.layout memory c) (here : c 4 ≡ at_place at) (fits : at + 6 ≤ 10000)
    (cut_is : c (heap_at + (at + 2)) ≡ at_place to) (size_is : c (heap_at + (at + 4)) ≡ 2 * n + b) (few_n : n ≤ 10000) (few_b : b ≤ 1) where
  abbrev st : List ℕ → ℕ → ℕ → ℕ → State
  st m a d e = state m (a ∷ d ∷ e ∷ 0 ∷ []) typed drawn output

  abbrev v : ℕ
  v = at_place at

  abbrev size : ℕ
  size = 2 * n + b

  abbrev back : ℕ
  back = c (heap_at + (at + 1))

  abbrev around : ℕ
  around = c (heap_at + (at + 3))

  abbrev behind : ℕ
  behind = c (heap_at + (at + 0))

  abbrev m1 : List ℕ
  m1 = with_cell memory 6 around

  abbrev c1 : ℕ → ℕ
  c1 = replaced c 6 around

  abbrev m2 : List ℕ
  m2 = with_cell m1 4 behind

  abbrev c2 : ℕ → ℕ
  c2 = replaced c1 4 behind

  frame_is : (m : List ℕ) (c' : ℕ → ℕ) → Holds p.world.layout m c' → c' 4 ≡ c 4 → (a d e : ℕ) → value p (st m a d e) (atoms.Var 20) ≡ word v
  frame_is m c' hh same a d e = let room = has.mapped.room in register p (st m a d e) c' 20 hh (omega arith) (omega arith) (omega arith) ∙ ap word (same ∙ here)

  -- up to the test
  record Read : Type 0 where
    holds : Holds p.world.layout m2 c2
    others : (k : ℕ) → k ≢ 4 → k ≢ 6 → c2 k ≡ c k
    inner : c2 6 ≡ around
    runs : (o : Outcome) (s' : State) (k : ℕ) → Runs p f w LEAVE_ACTS (drop 7 LEAVE_ACTS) (st m2 b (at_place to) back) o s' k → Runs p f w LEAVE_ACTS LEAVE_ACTS (st memory 0 0 0) o s' (suc (suc (suc (suc (suc (suc (suc k)))))))

  read : Read
  read =
      let room = has.mapped.room in
      let u = at_place to in
      let put6 = puts p (st memory size u back) c 22 around h (omega arith) (omega arith) (omega arith) (h.words (heap_at + (at + 3))) in
      let put4 = puts p (st m1 size u back) c1 20 behind put6.holds (omega arith) (omega arith) (omega arith) (h.words (heap_at + (at + 0))) in
      let apart : (k : ℕ) → k ≢ 6 → c1 k ≡ c k = λ k ne. other_cell c 6 around k ne in
      let here0 = frame_is memory c h refl in
      record {
        holds = put4.holds;
        others = λ k no4 no6. other_cell c1 4 behind k no4 ∙ apart k no6;
        inner = other_cell c1 4 behind 6 (λ e. (omega arith)) ∙ same_cell c 6 around;
        runs = λ o s' k rest.
            passed (tested p (st memory 0 0 0) comparisons.Equal (atoms.Var 20) (atoms.Num 0) true v 0 false (here0 0 0 0) refl (ne_eqb v 0 (λ (z : v ≡ 0). (omega arith))))
            (done (computes p (st memory 0 0 0) (st memory size 0 0) 1 functions.Word (atoms.Num 678) (atoms.Var 20) 678 v size refl (here0 0 0 0) (reads_cell p.world.layout memory c 678 v (heap_at + (at + 4)) h (omega arith) (omega arith) ∙ ap word size_is) (set_1 p memory 0 0 0 0 size typed drawn output))
            (done (computes p (st memory size 0 0) (st memory size u 0) 2 functions.Word (atoms.Num 674) (atoms.Var 20) 674 v u refl (here0 size 0 0) (reads_cell p.world.layout memory c 674 v (heap_at + (at + 2)) h (omega arith) (omega arith) ∙ ap word cut_is) (set_2 p memory size 0 0 0 u typed drawn output))
            (done (computes p (st memory size u 0) (st memory size u back) 3 functions.Word (atoms.Num 672) (atoms.Var 20) 672 v back refl (here0 size u 0) (reads_cell p.world.layout memory c 672 v (heap_at + (at + 1)) h (omega arith) (omega arith)) (set_3 p memory size u 0 0 back typed drawn output))
            (done (computes p (st memory size u back) (st m1 size u back) 22 functions.Word (atoms.Num 676) (atoms.Var 20) 676 v around refl (here0 size u back) (reads_cell p.world.layout memory c 676 v (heap_at + (at + 3)) h (omega arith) (omega arith)) put6.put_is)
            (done (computes p (st m1 size u back) (st m2 size u back) 20 functions.Word (atoms.Num 670) (atoms.Var 20) 670 v behind refl (frame_is m1 c1 put6.holds (apart 4 (λ e. (omega arith))) size u back) (reads_cell p.world.layout m1 c1 670 v (heap_at + (at + 0)) put6.holds (omega arith) (omega arith) ∙ ap word (apart (heap_at + (at + 0)) (λ e. (omega arith)))) put4.put_is)
            (done (computes p (st m2 size u back) (st m2 b u back) 1 functions.Mod (atoms.Var 1) (atoms.Num 2) size 2 b (get_1 p m2 size u back 0 typed drawn output) refl (remains p m2 size 2 (omega arith) (omega arith) (omega arith) ∙ ap word (let q : size % 2 ≡ b = omega arith in q)) (set_1 p m2 size u back 0 b typed drawn output))
            rest))))));
      }

-- All answers are wanted: no choice is dropped.
keeps : (p : Program) → HasRunTime p → (f w : ℕ) (memory typed output : List ℕ) (drawn at to n : ℕ) (c : ℕ → ℕ) → Holds p.world.layout memory c → c 4 ≡ at_place at → at + 6 ≤ 10000 → c (heap_at + (at + 2)) ≡ at_place to → c (heap_at + (at + 4)) ≡ 2 * n + 1 → n ≤ 10000 → (ks : List ℕ) → Chain c (c 5) ks →
    Leaves p f w memory typed output drawn at to true c ks
unfolding behind_label
keeps p has f w memory typed output drawn at to n c h here fits cut_is size_is few_n ks chain =
    let around = c (heap_at + (at + 3)) in
    let behind = c (heap_at + (at + 0)) in
    let back = c (heap_at + (at + 1)) in
    let u = at_place to in
    let m2 = with_cell (with_cell memory 6 around) 4 behind in
    let c1 = replaced c 6 around in
    let c2 = replaced c1 4 behind in
    let locals = 1 ∷ u ∷ back ∷ 0 ∷ [] in
    let s2 = state m2 locals typed drawn output in
    let r = read p has f w memory typed output drawn at to n 1 c h here fits cut_is size_is few_n (omega arith) in
    record {
      memory' = m2;
      cells' = c2;
      locals' = locals;
      holds = r.holds;
      frame = same_cell c1 4 behind;
      inner = r.inner;
      chain = subst (λ (x : ℕ). Chain c2 x ks) (sym (r.others 5 (λ e. (omega arith)) (λ e. (omega arith)))) (chain_same c c2 (c 5) ks (λ k. r.others (heap_at + k) (λ e. (omega arith)) (λ e. (omega arith))) chain);
      others = λ k no4 no5 no6. r.others k no4 no6;
      count = 9;
      few = omega arith;
      runs = r.runs (Returns back) s2 2
          (taken (tested p s2 comparisons.Equal (atoms.Var 1) (atoms.Num 0) false 1 0 false (get_1 p m2 1 u back 0 typed drawn output) refl refl) refl (returns (get_3 p m2 1 u back 0 typed drawn output)));
    }

-- One answer is wanted: choices are dropped.
cuts : (p : Program) → HasRunTime p → (f w : ℕ) → 1 ≤ f → 1 ≤ w → (memory typed output : List ℕ) (drawn at to n : ℕ) (c : ℕ → ℕ) → Holds p.world.layout memory c → c 4 ≡ at_place at → at + 6 ≤ 10000 → c (heap_at + (at + 2)) ≡ at_place to → to < 16384 → c (heap_at + (at + 4)) ≡ 2 * n + 0 → n ≤ 10000 → (ks : List ℕ) → Chain c (c 5) ks →
    Leaves p f w memory typed output drawn at to false c ks
cuts p has f w some enough memory typed output drawn at to n c h here fits cut_is small size_is few_n ks chain =
    let around = c (heap_at + (at + 3)) in
    let behind = c (heap_at + (at + 0)) in
    let back = c (heap_at + (at + 1)) in
    let u = at_place to in
    let m2 = with_cell (with_cell memory 6 around) 4 behind in
    let c1 = replaced c 6 around in
    let c2 = replaced c1 4 behind in
    let locals = 0 ∷ u ∷ back ∷ 0 ∷ [] in
    let s2 = state m2 locals typed drawn output in
    let r = read p has f w memory typed output drawn at to n 0 c h here fits cut_is size_is few_n (omega arith) in
    let chain2 = subst (λ (x : ℕ). Chain c2 x ks) (sym (r.others 5 (λ e. (omega arith)) (λ e. (omega arith)))) (chain_same c c2 (c 5) ks (λ k. r.others (heap_at + k) (λ e. (omega arith)) (λ e. (omega arith))) chain) in
    let q = cut_works p has.mapped 0 0 m2 typed output drawn to small c2 r.holds ks chain2 in
    let few' = q.few in
    let s3 = state q.memory' locals typed drawn output in
    record {
      memory' = q.memory';
      cells' = q.cells';
      locals' = locals;
      holds = q.holds;
      frame = q.others 4 (λ e. (omega arith)) ∙ same_cell c1 4 behind;
      inner = q.others 6 (λ e. (omega arith)) ∙ r.inner;
      chain = q.chain;
      others = λ k no4 no5 no6. q.others k no5 ∙ r.others k no4 no6;
      count = suc (suc (suc (suc (suc (suc (suc (suc (suc q.count + 1))))))));
      few = omega arith;
      runs = r.runs (Returns back) s3 (suc (suc q.count + 1))
          (passed (tested p s2 comparisons.Equal (atoms.Var 1) (atoms.Num 0) false 0 0 true (get_1 p m2 0 u back 0 typed drawn output) refl refl)
          (calls {f' = 0} {w' = 0} {n = q.count} {n' = 1} {xs = (u, 0, 0)} refl (rw (get_2 p m2 0 u back 0 typed drawn output) refl) (cut_at p has) some (omega arith) q.runs refl
          (at_label (returns (get_3 p q.memory' 0 u back 0 typed drawn output)))));
    }

by_many : (p : Program) → HasRunTime p → (f w : ℕ) → 1 ≤ f → 1 ≤ w → (memory typed output : List ℕ) (drawn at to n : ℕ) (many : Bool) (c : ℕ → ℕ) → Holds p.world.layout memory c → c 4 ≡ at_place at → at + 6 ≤ 10000 → c (heap_at + (at + 2)) ≡ at_place to → to < 16384 → c (heap_at + (at + 4)) ≡ 2 * n + bit many → n ≤ 10000 → (ks : List ℕ) → Chain c (c 5) ks →
    Leaves p f w memory typed output drawn at to many c ks
by_many p has f w some enough memory typed output drawn at to n true c h here fits cut_is small size_is few_n ks chain = keeps p has f w memory typed output drawn at to n c h here fits cut_is size_is few_n ks chain
by_many p has f w some enough memory typed output drawn at to n false c h here fits cut_is small size_is few_n ks chain = cuts p has f w some enough memory typed output drawn at to n c h here fits cut_is small size_is few_n ks chain

-- Without a frame it fails.
fails : (p : Program) → IsMapped p → (f w : ℕ) (memory typed output : List ℕ) (drawn : ℕ) (c : ℕ → ℕ) → Holds p.world.layout memory c → c 4 ≡ 0 → Runs p f w LEAVE_ACTS LEAVE_ACTS (state memory (0 ∷ 0 ∷ 0 ∷ 0 ∷ []) typed drawn output) (Returns (p.names.routine FAIL)) (state memory (0 ∷ 0 ∷ 0 ∷ 0 ∷ []) typed drawn output) 2
unfolding behind_label
fails p map f w memory typed output drawn c h none =
    let room = map.room in
    let s = state memory (0 ∷ 0 ∷ 0 ∷ 0 ∷ []) typed drawn output in
    taken (tested p s comparisons.Equal (atoms.Var 20) (atoms.Num 0) true 0 0 true (register p s c 20 h (omega arith) (omega arith) (omega arith) ∙ ap word none) refl refl) refl (returns refl)

pub leave_works : LeaveWorks
leave_works = record {
  leaves = λ p has f w some enough memory typed output drawn at to n many c h here fits cut_is small size_is few_n ks chain. by_many p has f w some enough memory typed output drawn at to n many c h here fits cut_is small size_is few_n ks chain;
  has_none = λ p map f w memory typed output drawn c h none. fails p map f w memory typed output drawn c h none;
}
