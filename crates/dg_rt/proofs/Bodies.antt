-- The body of a closure is entered: its frame is made, with its variables.
use Rattle.std.proofs.Common.{◌≡◌, ◌≢◌, ℕ, suc, ◌+◌, ◌-◌, ◌<◌, ◌≤◌, true, false, List, [], ◌∷◌, ◌++◌, drop, refl, ap, ◌∙◌, subst, arith}
use Rattle.dg_base.specs.declared.run.Ending.TheVariants.{HeapLimit}
use Rattle.z_model.specs.declared.end.Halt.TheVariants.{AtQuit}
use Rattle.z_lang.specs.declared.act.Act.TheVariants as acts
use Rattle.z_lang.specs.declared.act.Atom.TheVariants as atoms
use Rattle.z_lang.specs.declared.act.Function.TheVariants as functions
use Rattle.z_lang.specs.declared.act.Comparison.TheVariants as comparisons
use Rattle.z_lang.specs.State.{State, Program, value}
use Rattle.z_lang.specs.Runs.{ActsRun as Runs, ActsOutcome as Outcome, Returns, Stops, at_label, taken, passed, done, behind_label}
use Rattle.dg_rt.specs.declared.queries.TheConstants.{BODY_ACTS}
use Rattle.dg_rt.specs.Cells.{with_cell, replaced, Holds}
use Rattle.dg_rt.specs.Areas.{heap_at, last_reg, state}
use Rattle.dg_rt.specs.Back.{at_place}
use Rattle.dg_rt.specs.RunTime.{HasRunTime}
use Rattle.dg_rt.specs.Closings.{closing}
use Rattle.dg_rt.specs.Charges.{MeetsLimit}
use Rattle.dg_rt.specs.Queries.{EntersBody, BodyWorks}
use Rattle.dg_rt.specs.inside.Walks.{steps}
use Rattle.dg_rt.proofs.Cells.{other_cell, same_cell}
use Rattle.dg_rt.proofs.Following.{word, tested, computes, copies, register, puts}
use Rattle.dg_rt.proofs.Locals.{get_1, get_2, get_3, get_4, set_1, set_2, set_3, set_4, adds, more_by, not_more_by}
use Rattle.dg_rt.proofs.Charging.{quits_full}
use Rattle.dg_rt.proofs.Rows.{put_row}
use Rattle.dg_rt.proofs.Filling.{fills}

module _ (p : Program) (has : HasRunTime p) (f w : ℕ) (memory typed output : List ℕ) (drawn n box : ℕ) (c : ℕ → ℕ) (top : ℕ) (h : Holds p.world.layout memory c) (at : c 3 ≡ top) (low : top ≤ 10000) (few_n : n ≤ 10001) where
  abbrev st : List ℕ → ℕ → ℕ → ℕ → ℕ → State
  st m a b d e = state m (a ∷ b ∷ d ∷ e ∷ []) typed drawn output

  reg : (m : List ℕ) (a b d e : ℕ) (c' : ℕ → ℕ) (v : ℕ) → Holds p.world.layout m c' → 16 ≤ v → v < 240 → value p (st m a b d e) (atoms.Var v) ≡ word (c' (v - 16))
  reg m a b d e c' v hh le lt = let room = has.mapped.room in register p (st m a b d e) c' v hh le lt (omega arith)

  abbrev end : ℕ
  end = top + n + 6

  -- up to the test
  to_test : (o : Outcome) (s' : State) (k : ℕ) → Runs p f w BODY_ACTS (drop 2 BODY_ACTS) (st memory n box end 0) o s' k → Runs p f w BODY_ACTS BODY_ACTS (st memory n box 0 0) o s' (suc (suc k))
  to_test o s' k rest =
      done (computes p (st memory n box 0 0) (st memory n box (top + n) 0) 3 functions.Add (atoms.Var 19) (atoms.Var 1) top n (top + n) (reg memory n box 0 0 c 19 h (omega arith) (omega arith) ∙ ap word at) (get_1 p memory n box 0 0 typed drawn output) (adds p memory top n (top + n) refl (omega arith)) (set_3 p memory n box 0 0 (top + n) typed drawn output))
      (done (computes p (st memory n box (top + n) 0) (st memory n box end 0) 3 functions.Add (atoms.Var 3) (atoms.Num 6) (top + n) 6 end (get_3 p memory n box (top + n) 0 typed drawn output) refl (adds p memory (top + n) 6 end refl (omega arith)) (set_3 p memory n box (top + n) 0 end typed drawn output))
      rest)

  enters : top + (6 + n) ≤ 10000 → c 10 ≤ 1 → box < 65536 → EntersBody p f w memory typed output drawn n box c top
  unfolding behind_label
  enters fits bit small =
      let room = has.mapped.room in
      let q = n + n + c 10 in
      let w0 = at_place top in
      let locals = q ∷ w0 ∷ end ∷ box ∷ [] in
      let words = c 4 ∷ c 8 ∷ w0 ∷ c 6 ∷ q ∷ box ∷ [] in
      let them = atoms.Var 20 ∷ atoms.Var 24 ∷ atoms.Var 2 ∷ atoms.Var 22 ∷ atoms.Var 1 ∷ atoms.Var 4 ∷ [] in
      let r = put_row p has.mapped f w locals typed output drawn top (λ m. get_2 p m q w0 end box typed drawn output) BODY_ACTS (drop 13 BODY_ACTS) 0 them words memory c c h (omega arith) (λ k lt. refl) (
        (λ m c' hh same. reg m q w0 end box c' 20 hh (omega arith) (omega arith) ∙ ap word (same 4 (omega arith))),
        h.words 4,
        (
          (λ m c' hh same. reg m q w0 end box c' 24 hh (omega arith) (omega arith) ∙ ap word (same 8 (omega arith))),
          h.words 8,
          (
            (λ m c' hh same. get_2 p m q w0 end box typed drawn output),
            omega arith,
            (
              (λ m c' hh same. reg m q w0 end box c' 22 hh (omega arith) (omega arith) ∙ ap word (same 6 (omega arith))),
              h.words 6,
              (
                (λ m c' hh same. get_1 p m q w0 end box typed drawn output),
                omega arith,
                ((λ m c' hh same. get_4 p m q w0 end box typed drawn output), small, tt),
              ),
            ),
          ),
        ),
      ) in
      let m1 = r.memory' in
      let c1 = r.cells' in
      let p2 = puts p (st m1 q w0 end box) c1 19 end r.holds (omega arith) (omega arith) (omega arith) (omega arith) in
      let m2 = with_cell m1 3 end in
      let c2 = replaced c1 3 end in
      let p3 = puts p (st m2 q w0 end box) c2 20 w0 p2.holds (omega arith) (omega arith) (omega arith) (omega arith) in
      let m3 = with_cell m2 4 w0 in
      let c3 = replaced c2 4 w0 in
      let p4 = puts p (st m3 q w0 end box) c3 22 0 p3.holds (omega arith) (omega arith) (omega arith) (omega arith) in
      let m4 = with_cell m3 6 0 in
      let c4 = replaced c3 6 0 in
      let first = at_place (top + 6) in
      let last = at_place (top + 6 + n) in
      let v = fills p has.mapped f w BODY_ACTS (drop 23 BODY_ACTS) (drop 25 BODY_ACTS) refl refl typed output drawn q box n (top + 6) m4 c4 p4.holds (omega arith) in
      let few' = v.few in
      let late : (k : ℕ) → k ≢ 3 → k ≢ 4 → k ≢ 6 → c4 k ≡ c1 k = λ k n3 n4 n6. other_cell c3 6 0 k n6 ∙ other_cell c2 4 w0 k n4 ∙ other_cell c1 3 end k n3 in
      let early : (k : ℕ) → k < 303 → v.cells' k ≡ c4 k = λ k lt. v.others k (λ q'. (omega arith)) in
      let in_row : (k : ℕ) → k < top + 6 → v.cells' (heap_at + k) ≡ c1 (heap_at + k) = λ k lt. v.others (heap_at + k) (λ q'. (omega arith)) ∙ late (heap_at + k) (λ x. (omega arith)) (λ x. (omega arith)) (λ x. (omega arith)) in
      let a = r.are in
      record {
        memory' = v.memory';
        cells' = v.cells';
        locals' = v.locals';
        holds = v.holds;
        heap = early 3 (omega arith) ∙ other_cell c3 6 0 3 (λ x. (omega arith)) ∙ other_cell c2 4 w0 3 (λ x. (omega arith)) ∙ same_cell c1 3 end ∙ omega arith;
        frame = early 4 (omega arith) ∙ other_cell c3 6 0 4 (λ x. (omega arith)) ∙ same_cell c2 4 w0;
        inner = early 6 (omega arith) ∙ same_cell c3 6 0;
        row = (in_row (top + 0) (omega arith) ∙ a.0, (in_row (suc (top + 0)) (omega arith) ∙ a.1.0, (in_row (suc (suc (top + 0))) (omega arith) ∙ a.1.1.0, (in_row (suc (suc (suc (top + 0)))) (omega arith) ∙ a.1.1.1.0, (in_row (suc (suc (suc (suc (top + 0))))) (omega arith) ∙ a.1.1.1.1.0, (in_row (suc (suc (suc (suc (suc (top + 0)))))) (omega arith) ∙ a.1.1.1.1.1.0, tt))))));
        vars = v.are;
        others = λ k n3 n4 n6 far. v.others k (λ le. (let z : heap_at + (top + 6 + n) ≤ k = far (omega arith) in z)) ∙ late k n3 n4 n6 ∙ r.others k (λ le. (let z : heap_at + (top + 6 + n) ≤ k = far (omega arith) in omega arith));
        count = 18 + v.count;
        few = omega arith;
        runs = subst (Runs p f w BODY_ACTS BODY_ACTS (st memory n box 0 0) (Returns 0) (state v.memory' v.locals' typed drawn output)) (let z : suc (suc (suc (suc (suc (suc (suc (steps 6 (suc (suc (suc (suc (suc v.count)))))))))))) ≡ 18 + v.count = omega arith in z)
            (to_test (Returns 0) (state v.memory' v.locals' typed drawn output) (suc (suc (suc (suc (suc (steps 6 (suc (suc (suc (suc (suc v.count)))))))))))
            (passed (tested p (st memory n box end 0) comparisons.Greater (atoms.Var 3) (atoms.Num 10000) true end 10000 false (get_3 p memory n box end 0 typed drawn output) refl (not_more_by end 10000 (omega arith) (omega arith) (omega arith)))
            (done (copies p (st memory n box end 0) (st memory n box end box) 4 (atoms.Var 2) box (get_2 p memory n box end 0 typed drawn output) (set_4 p memory n box end 0 box typed drawn output))
            (done (computes p (st memory n box end box) (st memory n w0 end box) 2 functions.Add (atoms.Var 19) (atoms.Num 32768) top 32768 w0 (reg memory n box end box c 19 h (omega arith) (omega arith) ∙ ap word at) refl (adds p memory top 32768 w0 (omega arith) (omega arith)) (set_2 p memory n box end box w0 typed drawn output))
            (done (computes p (st memory n w0 end box) (st memory (n + n) w0 end box) 1 functions.Add (atoms.Var 1) (atoms.Var 1) n n (n + n) (get_1 p memory n w0 end box typed drawn output) (get_1 p memory n w0 end box typed drawn output) (adds p memory n n (n + n) refl (omega arith)) (set_1 p memory n w0 end box (n + n) typed drawn output))
            (done (computes p (st memory (n + n) w0 end box) (st memory q w0 end box) 1 functions.Add (atoms.Var 1) (atoms.Var 26) (n + n) (c 10) q (get_1 p memory (n + n) w0 end box typed drawn output) (reg memory (n + n) w0 end box c 26 h (omega arith) (omega arith)) (adds p memory (n + n) (c 10) q refl (omega arith)) (set_1 p memory (n + n) w0 end box q typed drawn output))
            (r.runs (Returns 0) (state v.memory' v.locals' typed drawn output) (suc (suc (suc (suc (suc v.count)))))
            (done (copies p (st m1 q w0 end box) (st m2 q w0 end box) 19 (atoms.Var 3) end (get_3 p m1 q w0 end box typed drawn output) p2.put_is)
            (done (copies p (st m2 q w0 end box) (st m3 q w0 end box) 20 (atoms.Var 2) w0 (get_2 p m2 q w0 end box typed drawn output) p3.put_is)
            (done (copies p (st m3 q w0 end box) (st m4 q w0 end box) 22 (atoms.Num 0) 0 refl p4.put_is)
            (done (computes p (st m4 q w0 end box) (st m4 q first end box) 2 functions.Add (atoms.Var 2) (atoms.Num 6) w0 6 first (get_2 p m4 q w0 end box typed drawn output) refl (adds p m4 w0 6 first (omega arith) (omega arith)) (set_2 p m4 q w0 end box first typed drawn output))
            (done (computes p (st m4 q first end box) (st m4 q first last box) 3 functions.Add (atoms.Var 3) (atoms.Num 32768) end 32768 last (get_3 p m4 q first end box typed drawn output) refl (adds p m4 end 32768 last (omega arith) (omega arith)) (set_3 p m4 q first end box last typed drawn output))
            (at_label v.runs)))))))))))));
      }

  -- The heap's limit is met.
  meets : 2 ≤ f → 10000 < top + (6 + n) → MeetsLimit p f w BODY_ACTS memory (n ∷ box ∷ 0 ∷ 0 ∷ []) typed output drawn c 4
  unfolding behind_label
  meets two full =
      let q = quits_full p has f w two BODY_ACTS (acts.Quit ∷ []) memory (n ∷ box ∷ end ∷ 0 ∷ []) typed output drawn (c last_reg) c h refl in
      let cheap = q.few in
      record {
        memory' = memory;
        count = suc (suc (suc (suc q.count)));
        runs = to_test (Stops AtQuit) (state memory [] typed drawn (output ++ closing (c last_reg) HeapLimit)) (suc (suc q.count))
            (taken (tested p (st memory n box end 0) comparisons.Greater (atoms.Var 3) (atoms.Num 10000) true end 10000 true (get_3 p memory n box end 0 typed drawn output) refl (more_by end 10000 (omega arith) (omega arith) (omega arith))) refl q.runs);
        few = omega arith;
      }

pub body_works : BodyWorks
body_works = record {
  enters = λ p has f w memory typed output drawn n box c top h at fits bit small. enters p has f w memory typed output drawn n box c top h at (omega arith) (omega arith) fits bit small;
  meets = λ p has f w two memory typed output drawn n box c top h at low few full. meets p has f w memory typed output drawn n box c top h at low few two full;
}
