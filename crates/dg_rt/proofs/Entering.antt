-- A rule is entered: its frame is made, with its variables.
use Rattle.std.proofs.Common.{◌≡◌, ◌≢◌, ℕ, suc, ◌+◌, ◌-◌, ◌<◌, ◌≤◌, true, false, List, [], ◌∷◌, drop, refl, ap, ◌∙◌, subst, arith}
use Rattle.z_lang.specs.declared.act.Act.TheVariants as acts
use Rattle.z_lang.specs.declared.act.Atom.TheVariants as atoms
use Rattle.z_lang.specs.declared.act.Function.TheVariants as functions
use Rattle.z_lang.specs.declared.act.Comparison.TheVariants as comparisons
use Rattle.z_lang.specs.State.{State, Program, value}
use Rattle.z_lang.specs.Runs.{ActsRun as Runs, Returns, at_label, taken, passed, done, behind_label}
use Rattle.dg_rt.specs.declared.frames.TheConstants.{ENTER_ACTS}
use Rattle.dg_rt.specs.Cells.{with_cell, replaced, Holds}
use Rattle.dg_rt.specs.Areas.{heap_at, trail_at, last_reg, state}
use Rattle.dg_rt.specs.Back.{at_place}
use Rattle.dg_rt.specs.RunTime.{HasRunTime}
use Rattle.dg_rt.specs.Charges.{MeetsLimit}
use Rattle.dg_rt.specs.Frames.{Enters, EnterWorks}
use Rattle.dg_rt.specs.inside.Walks.{steps}
use Rattle.dg_rt.proofs.Cells.{other_cell, same_cell}
use Rattle.dg_rt.proofs.Following.{word as word_is, tested, computes, copies, register, puts}
use Rattle.dg_rt.proofs.Locals.{get_1, get_2, get_3, set_1, set_2, set_3, adds, more_by, not_more_by}
use Rattle.dg_rt.proofs.Charging.{quits_full}
use Rattle.dg_rt.proofs.Rows.{put_row}
use Rattle.dg_rt.proofs.Filling.{fills}

-- ## The routine

pub frames : (p : Program) → HasRunTime p → (f w : ℕ) (memory typed output : List ℕ) (drawn n more : ℕ) (c : ℕ → ℕ) (top : ℕ) → Holds p.world.layout memory c → c 3 ≡ top → top + (6 + n + more) ≤ 10000 → c 10 ≤ 1 → Enters p f w memory typed output drawn n more c top
unfolding behind_label
frames p has f w memory typed output drawn n more c top h at few bit =
    let room = has.mapped.room in
    let st : List ℕ → ℕ → ℕ → ℕ → State = λ m a b d. state m (a ∷ b ∷ d ∷ 0 ∷ []) typed drawn output in
    let e0 = top + n in
    let e = top + n + 6 in
    let sum = more + e in
    let q = n + n + c 10 in
    let w0 = at_place top in
    let reg : (m : List ℕ) (a b d : ℕ) (c' : ℕ → ℕ) (v : ℕ) → Holds p.world.layout m c' → 16 ≤ v → v < 240 → value p (st m a b d) (atoms.Var v) ≡ word_is (c' (v - 16)) = λ m a b d c' v hh le lt. register p (st m a b d) c' v hh le lt (omega arith) in
    let locals = q ∷ w0 ∷ e ∷ 0 ∷ [] in
    let words = c 4 ∷ c 8 ∷ c 9 ∷ c 6 ∷ q ∷ 0 ∷ [] in
    let them = atoms.Var 20 ∷ atoms.Var 24 ∷ atoms.Var 25 ∷ atoms.Var 22 ∷ atoms.Var 1 ∷ atoms.Num 0 ∷ [] in
    let r = put_row p has.mapped f w locals typed output drawn top (λ m. get_2 p m q w0 e 0 typed drawn output) ENTER_ACTS (drop 13 ENTER_ACTS) 0 them words memory c c h (omega arith) (λ k lt. refl) (
      (λ m c' hh same. reg m q w0 e c' 20 hh (omega arith) (omega arith) ∙ ap word_is (same 4 (omega arith))),
      h.words 4,
      (
        (λ m c' hh same. reg m q w0 e c' 24 hh (omega arith) (omega arith) ∙ ap word_is (same 8 (omega arith))),
        h.words 8,
        (
          (λ m c' hh same. reg m q w0 e c' 25 hh (omega arith) (omega arith) ∙ ap word_is (same 9 (omega arith))),
          h.words 9,
          (
            (λ m c' hh same. reg m q w0 e c' 22 hh (omega arith) (omega arith) ∙ ap word_is (same 6 (omega arith))),
            h.words 6,
            (
              (λ m c' hh same. get_1 p m q w0 e 0 typed drawn output),
              omega arith,
              ((λ m c' hh same. refl), omega arith, tt),
            ),
          ),
        ),
      ),
    ) in
    let m1 = r.memory' in
    let c1 = r.cells' in
    let p2 = puts p (st m1 q w0 e) c1 19 e r.holds (omega arith) (omega arith) (omega arith) (omega arith) in
    let m2 = with_cell m1 3 e in
    let c2 = replaced c1 3 e in
    let p3 = puts p (st m2 q w0 e) c2 20 w0 p2.holds (omega arith) (omega arith) (omega arith) (omega arith) in
    let m3 = with_cell m2 4 w0 in
    let c3 = replaced c2 4 w0 in
    let p4 = puts p (st m3 q w0 e) c3 22 0 p3.holds (omega arith) (omega arith) (omega arith) (omega arith) in
    let m4 = with_cell m3 6 0 in
    let c4 = replaced c3 6 0 in
    let p5 = puts p (st m4 q w0 e) c4 29 0 p4.holds (omega arith) (omega arith) (omega arith) (omega arith) in
    let m5 = with_cell m4 13 0 in
    let c5 = replaced c4 13 0 in
    let first = at_place (top + 6) in
    let end = at_place (top + 6 + n) in
    let v = fills p has.mapped f w ENTER_ACTS (drop 24 ENTER_ACTS) (drop 26 ENTER_ACTS) refl refl typed output drawn q 0 n (top + 6) m5 c5 p5.holds (omega arith) in
    let few' = v.few in
    let late : (k : ℕ) → k ≢ 3 → k ≢ 4 → k ≢ 6 → k ≢ 13 → c5 k ≡ c1 k = λ k n3 n4 n6 n13. other_cell c4 13 0 k n13 ∙ other_cell c3 6 0 k n6 ∙ other_cell c2 4 w0 k n4 ∙ other_cell c1 3 e k n3 in
    let reg5 : (k : ℕ) → k < 303 → v.cells' k ≡ c5 k = λ k lt. v.others k (λ q'. (omega arith)) in
    let in_row : (k : ℕ) → k < top + 6 → v.cells' (heap_at + k) ≡ c1 (heap_at + k) = λ k lt. v.others (heap_at + k) (λ q'. (omega arith)) ∙ late (heap_at + k) (λ x. (omega arith)) (λ x. (omega arith)) (λ x. (omega arith)) (λ x. (omega arith)) in
    let a = r.are in
    record {
      memory' = v.memory';
      cells' = v.cells';
      locals' = v.locals';
      holds = v.holds;
      heap = reg5 3 (omega arith) ∙ other_cell c4 13 0 3 (λ x. (omega arith)) ∙ other_cell c3 6 0 3 (λ x. (omega arith)) ∙ other_cell c2 4 w0 3 (λ x. (omega arith)) ∙ same_cell c1 3 e ∙ omega arith;
      frame = reg5 4 (omega arith) ∙ other_cell c4 13 0 4 (λ x. (omega arith)) ∙ other_cell c3 6 0 4 (λ x. (omega arith)) ∙ same_cell c2 4 w0;
      inner = reg5 6 (omega arith) ∙ other_cell c4 13 0 6 (λ x. (omega arith)) ∙ same_cell c3 6 0;
      clash = reg5 13 (omega arith) ∙ same_cell c4 13 0;
      row = (in_row (top + 0) (omega arith) ∙ a.0, (in_row (suc (top + 0)) (omega arith) ∙ a.1.0, (in_row (suc (suc (top + 0))) (omega arith) ∙ a.1.1.0, (in_row (suc (suc (suc (top + 0)))) (omega arith) ∙ a.1.1.1.0, (in_row (suc (suc (suc (suc (top + 0))))) (omega arith) ∙ a.1.1.1.1.0, (in_row (suc (suc (suc (suc (suc (top + 0)))))) (omega arith) ∙ a.1.1.1.1.1.0, tt))))));
      vars = v.are;
      others = λ k n3 n4 n6 n13 far. v.others k (λ low. (let z : trail_at ≤ k = far (omega arith) in omega arith)) ∙ late k n3 n4 n6 n13 ∙ r.others k (λ low. (let z : trail_at ≤ k = far (omega arith) in omega arith));
      count = 19 + v.count;
      few = omega arith;
      runs = subst (Runs p f w ENTER_ACTS ENTER_ACTS (st memory n more 0) (Returns 0) (state v.memory' v.locals' typed drawn output)) (let z : suc (suc (suc (suc (suc (suc (suc (steps 6 (suc (suc (suc (suc (suc (suc v.count))))))))))))) ≡ 19 + v.count = omega arith in z)
          (done (computes p (st memory n more 0) (st memory n more e0) 3 functions.Add (atoms.Var 19) (atoms.Var 1) top n e0 (reg memory n more 0 c 19 h (omega arith) (omega arith) ∙ ap word_is at) (get_1 p memory n more 0 0 typed drawn output) (adds p memory top n e0 refl (omega arith)) (set_3 p memory n more 0 0 e0 typed drawn output))
          (done (computes p (st memory n more e0) (st memory n more e) 3 functions.Add (atoms.Var 3) (atoms.Num 6) e0 6 e (get_3 p memory n more e0 0 typed drawn output) refl (adds p memory e0 6 e refl (omega arith)) (set_3 p memory n more e0 0 e typed drawn output))
          (done (computes p (st memory n more e) (st memory n sum e) 2 functions.Add (atoms.Var 2) (atoms.Var 3) more e sum (get_2 p memory n more e 0 typed drawn output) (get_3 p memory n more e 0 typed drawn output) (adds p memory more e sum refl (omega arith)) (set_2 p memory n more e 0 sum typed drawn output))
          (passed (tested p (st memory n sum e) comparisons.Greater (atoms.Var 2) (atoms.Num 10000) true sum 10000 false (get_2 p memory n sum e 0 typed drawn output) refl (not_more_by sum 10000 (omega arith) (omega arith) (omega arith)))
          (done (computes p (st memory n sum e) (st memory n w0 e) 2 functions.Add (atoms.Var 19) (atoms.Num 32768) top 32768 w0 (reg memory n sum e c 19 h (omega arith) (omega arith) ∙ ap word_is at) refl (adds p memory top 32768 w0 (omega arith) (omega arith)) (set_2 p memory n sum e 0 w0 typed drawn output))
          (done (computes p (st memory n w0 e) (st memory (n + n) w0 e) 1 functions.Add (atoms.Var 1) (atoms.Var 1) n n (n + n) (get_1 p memory n w0 e 0 typed drawn output) (get_1 p memory n w0 e 0 typed drawn output) (adds p memory n n (n + n) refl (omega arith)) (set_1 p memory n w0 e 0 (n + n) typed drawn output))
          (done (computes p (st memory (n + n) w0 e) (st memory q w0 e) 1 functions.Add (atoms.Var 1) (atoms.Var 26) (n + n) (c 10) q (get_1 p memory (n + n) w0 e 0 typed drawn output) (reg memory (n + n) w0 e c 26 h (omega arith) (omega arith)) (adds p memory (n + n) (c 10) q refl (omega arith)) (set_1 p memory (n + n) w0 e 0 q typed drawn output))
          (r.runs (Returns 0) (state v.memory' v.locals' typed drawn output) (suc (suc (suc (suc (suc (suc v.count))))))
          (done (copies p (st m1 q w0 e) (st m2 q w0 e) 19 (atoms.Var 3) e (get_3 p m1 q w0 e 0 typed drawn output) p2.put_is)
          (done (copies p (st m2 q w0 e) (st m3 q w0 e) 20 (atoms.Var 2) w0 (get_2 p m2 q w0 e 0 typed drawn output) p3.put_is)
          (done (copies p (st m3 q w0 e) (st m4 q w0 e) 22 (atoms.Num 0) 0 refl p4.put_is)
          (done (copies p (st m4 q w0 e) (st m5 q w0 e) 29 (atoms.Num 0) 0 refl p5.put_is)
          (done (computes p (st m5 q w0 e) (st m5 q first e) 2 functions.Add (atoms.Var 2) (atoms.Num 6) w0 6 first (get_2 p m5 q w0 e 0 typed drawn output) refl (adds p m5 w0 6 first (omega arith) (omega arith)) (set_2 p m5 q w0 e 0 first typed drawn output))
          (done (computes p (st m5 q first e) (st m5 q first end) 3 functions.Add (atoms.Var 3) (atoms.Num 32768) e 32768 end (get_3 p m5 q first e 0 typed drawn output) refl (adds p m5 e 32768 end (omega arith) (omega arith)) (set_3 p m5 q first e 0 end typed drawn output))
          (at_label v.runs)))))))))))))));
    }

-- The heap's limit is met.
meets : (p : Program) → HasRunTime p → (f w : ℕ) → 2 ≤ f → (memory typed output : List ℕ) (drawn n more : ℕ) (c : ℕ → ℕ) (top : ℕ) → Holds p.world.layout memory c → c 3 ≡ top → top ≤ 10000 → n ≤ 300 → more ≤ 10001 → 10000 < top + (6 + n + more) → MeetsLimit p f w ENTER_ACTS memory (n ∷ more ∷ 0 ∷ 0 ∷ []) typed output drawn c 5
unfolding behind_label
meets p has f w two memory typed output drawn n more c top h at low few cells_few full =
    let room = has.mapped.room in
    let st : ℕ → ℕ → ℕ → State = λ a b d. state memory (a ∷ b ∷ d ∷ 0 ∷ []) typed drawn output in
    let e0 = top + n in
    let e = top + n + 6 in
    let sum = more + e in
    let q = quits_full p has f w two ENTER_ACTS (acts.Quit ∷ []) memory (n ∷ sum ∷ e ∷ 0 ∷ []) typed output drawn (c last_reg) c h refl in
    let cheap = q.few in
    record {
      memory' = memory;
      count = suc (suc (suc (suc (suc q.count))));
      runs = done (computes p (st n more 0) (st n more e0) 3 functions.Add (atoms.Var 19) (atoms.Var 1) top n e0 (register p (st n more 0) c 19 h (omega arith) (omega arith) (omega arith) ∙ ap word_is at) (get_1 p memory n more 0 0 typed drawn output) (adds p memory top n e0 refl (omega arith)) (set_3 p memory n more 0 0 e0 typed drawn output))
          (done (computes p (st n more e0) (st n more e) 3 functions.Add (atoms.Var 3) (atoms.Num 6) e0 6 e (get_3 p memory n more e0 0 typed drawn output) refl (adds p memory e0 6 e refl (omega arith)) (set_3 p memory n more e0 0 e typed drawn output))
          (done (computes p (st n more e) (st n sum e) 2 functions.Add (atoms.Var 2) (atoms.Var 3) more e sum (get_2 p memory n more e 0 typed drawn output) (get_3 p memory n more e 0 typed drawn output) (adds p memory more e sum refl (omega arith)) (set_2 p memory n more e 0 sum typed drawn output))
          (taken (tested p (st n sum e) comparisons.Greater (atoms.Var 2) (atoms.Num 10000) true sum 10000 true (get_2 p memory n sum e 0 typed drawn output) refl (more_by sum 10000 (omega arith) (omega arith) (omega arith))) refl q.runs)));
      few = omega arith;
    }

pub enter_works : EnterWorks
enter_works = record {
  enters = λ p has f w memory typed output drawn n more c top h at few bit. frames p has f w memory typed output drawn n more c top h at few bit;
  meets = λ p has f w two memory typed output drawn n more c top h at low few cells_few full. meets p has f w two memory typed output drawn n more c top h at low few cells_few full;
}
