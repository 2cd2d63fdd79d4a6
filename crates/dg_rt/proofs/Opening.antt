-- The routine that opens a choice does so.
use Rattle.std.proofs.Common.{◌≡◌, ◌≢◌, ℕ, suc, ◌+◌, ◌-◌, ◌<◌, ◌≤◌, true, false, List, [], ◌∷◌, ◌++◌, drop, refl, ap, ◌∙◌, arith}
use Rattle.dg_base.specs.declared.run.Ending.TheVariants.{HeapLimit}
use Rattle.z_model.specs.declared.end.Halt.TheVariants.{AtQuit}
use Rattle.z_lang.specs.declared.act.Act.TheVariants as acts
use Rattle.z_lang.specs.declared.act.Atom.TheVariants as atoms
use Rattle.z_lang.specs.declared.act.Function.TheVariants as functions
use Rattle.z_lang.specs.declared.act.Comparison.TheVariants as comparisons
use Rattle.z_lang.specs.State.{State, Program, value}
use Rattle.z_lang.specs.Runs.{ActsRun as Runs, Returns, Stops, taken, passed, done, returns, behind_label}
use Rattle.dg_rt.specs.declared.choices.TheConstants.{OPEN_ACTS}
use Rattle.dg_rt.specs.Cells.{with_cell, replaced, Holds}
use Rattle.dg_rt.specs.Areas.{heap_at, last_reg, state}
use Rattle.dg_rt.specs.Back.{at_place}
use Rattle.dg_rt.specs.RunTime.{HasRunTime}
use Rattle.dg_rt.specs.Closings.{closing}
use Rattle.dg_rt.specs.Charges.{MeetsLimit}
use Rattle.dg_rt.specs.Choices.{Opens, OpenWorks}
use Rattle.dg_rt.proofs.Cells.{other_cell, same_cell}
use Rattle.dg_rt.proofs.Following.{word, tested, computes, copies, register, puts}
use Rattle.dg_rt.proofs.Locals.{first, second, third, fourth, fifth, put_second, put_fourth, put_fifth, adds, more_by, not_more_by}
use Rattle.dg_rt.proofs.Charging.{quits_full}
use Rattle.dg_rt.proofs.Rows.{row_same, put_row}

module _ (p : Program) (has : HasRunTime p) (f w : ℕ) (memory typed output : List ℕ) (drawn routine eighth ninth : ℕ) (c : ℕ → ℕ) (top : ℕ) (h : Holds p.world.layout memory c) (at : c 3 ≡ top) (low : top ≤ 10000) where
  abbrev st : List ℕ → ℕ → ℕ → ℕ → State
  st m b d e = state m (routine ∷ b ∷ ninth ∷ d ∷ e ∷ []) typed drawn output

  reg : (m : List ℕ) (b d e : ℕ) (c' : ℕ → ℕ) (v : ℕ) → Holds p.world.layout m c' → 16 ≤ v → v < 240 → value p (st m b d e) (atoms.Var v) ≡ word (c' (v - 16))
  reg m b d e c' v hh le lt = let room = has.mapped.room in register p (st m b d e) c' v hh le lt (omega arith)

  abbrev end : ℕ
  end = top + 10

  -- up to the test
  opens_by : (o : _) (s' : State) (k : ℕ) → Runs p f w OPEN_ACTS (drop 2 OPEN_ACTS) (st memory eighth eighth end) o s' k → Runs p f w OPEN_ACTS OPEN_ACTS (st memory eighth 0 0) o s' (suc (suc k))
  opens_by o s' k rest =
      done (copies p (st memory eighth 0 0) (st memory eighth eighth 0) 4 (atoms.Var 2) eighth (second p memory routine eighth ninth 0 0 typed drawn output) (put_fourth p memory routine eighth ninth 0 0 eighth typed drawn output))
      (done (computes p (st memory eighth eighth 0) (st memory eighth eighth end) 5 functions.Add (atoms.Var 19) (atoms.Num 10) top 10 end (reg memory eighth eighth 0 c 19 h (omega arith) (omega arith) ∙ ap word at) refl (adds p memory top 10 end refl (omega arith)) (put_fifth p memory routine eighth ninth eighth 0 end typed drawn output))
      rest)

  opens : top + 10 ≤ 10000 → routine < 65536 → eighth < 65536 → ninth < 65536 → Opens p f w memory typed output drawn routine eighth ninth c top
  opens fits few_r few_e few_n =
      let room = has.mapped.room in
      let w0 = at_place top in
      let locals = routine ∷ w0 ∷ ninth ∷ eighth ∷ end ∷ [] in
      let words = c 5 ∷ routine ∷ c 4 ∷ c 6 ∷ c 7 ∷ c 1 ∷ c 29 ∷ eighth ∷ ninth ∷ 0 ∷ [] in
      let them = atoms.Var 21 ∷ atoms.Var 1 ∷ atoms.Var 20 ∷ atoms.Var 22 ∷ atoms.Var 23 ∷ atoms.Var 17 ∷ atoms.Var 45 ∷ atoms.Var 4 ∷ atoms.Var 3 ∷ atoms.Num 0 ∷ [] in
      let r = put_row p has.mapped f w locals typed output drawn top (λ m. second p m routine w0 ninth eighth end typed drawn output) OPEN_ACTS (drop 14 OPEN_ACTS) 0 them words memory c c h (omega arith) (λ k lt. refl) (
        (λ m c' hh same. reg m w0 eighth end c' 21 hh (omega arith) (omega arith) ∙ ap word (same 5 (omega arith))),
        h.words 5,
        (
          (λ m c' hh same. first p m routine w0 ninth eighth end typed drawn output),
          few_r,
          (
            (λ m c' hh same. reg m w0 eighth end c' 20 hh (omega arith) (omega arith) ∙ ap word (same 4 (omega arith))),
            h.words 4,
            (
              (λ m c' hh same. reg m w0 eighth end c' 22 hh (omega arith) (omega arith) ∙ ap word (same 6 (omega arith))),
              h.words 6,
              (
                (λ m c' hh same. reg m w0 eighth end c' 23 hh (omega arith) (omega arith) ∙ ap word (same 7 (omega arith))),
                h.words 7,
                (
                  (λ m c' hh same. reg m w0 eighth end c' 17 hh (omega arith) (omega arith) ∙ ap word (same 1 (omega arith))),
                  h.words 1,
                  (
                    (λ m c' hh same. reg m w0 eighth end c' 45 hh (omega arith) (omega arith) ∙ ap word (same 29 (omega arith))),
                    h.words 29,
                    (
                      (λ m c' hh same. fourth p m routine w0 ninth eighth end typed drawn output),
                      few_e,
                      (
                        (λ m c' hh same. third p m routine w0 ninth eighth end typed drawn output),
                        few_n,
                        (
                          (λ m c' hh same. refl),
                          omega arith,
                          tt,
                        ),
                      ),
                    ),
                  ),
                ),
              ),
            ),
          ),
        ),
      ) in
      let m1 = r.memory' in
      let c1 = r.cells' in
      let p2 = puts p (st m1 w0 eighth end) c1 21 w0 r.holds (omega arith) (omega arith) (omega arith) (omega arith) in
      let m2 = with_cell m1 5 w0 in
      let c2 = replaced c1 5 w0 in
      let p3 = puts p (st m2 w0 eighth end) c2 18 w0 p2.holds (omega arith) (omega arith) (omega arith) (omega arith) in
      let m3 = with_cell m2 2 w0 in
      let c3 = replaced c2 2 w0 in
      let p4 = puts p (st m3 w0 eighth end) c3 19 end p3.holds (omega arith) (omega arith) (omega arith) (omega arith) in
      let m4 = with_cell m3 3 end in
      let c4 = replaced c3 3 end in
      let late : (k : ℕ) → k ≢ 3 → k ≢ 5 → k ≢ 2 → c4 k ≡ c1 k = λ k n3 n5 n2. other_cell c3 3 end k n3 ∙ other_cell c2 2 w0 k n2 ∙ other_cell c1 5 w0 k n5 in
      record {
        memory' = m4;
        cells' = c4;
        locals' = locals;
        holds = p4.holds;
        heap = same_cell c3 3 end;
        choice = other_cell c3 3 end 5 (λ x. (omega arith)) ∙ other_cell c2 2 w0 5 (λ x. (omega arith)) ∙ same_cell c1 5 w0;
        mark = other_cell c3 3 end 2 (λ x. (omega arith)) ∙ same_cell c2 2 w0;
        row = row_same c1 c4 (top + 0) words (λ k le. late (heap_at + k) (λ x. (omega arith)) (λ x. (omega arith)) (λ x. (omega arith))) r.are;
        others = λ k n3 n5 n2 far. late k n3 n5 n2 ∙ r.others k (λ q. (let z : heap_at + (top + 10) ≤ k = far (omega arith) in omega arith));
        runs = opens_by (Returns w0) (st m4 w0 eighth end) 16
            (passed (tested p (st memory eighth eighth end) comparisons.Greater (atoms.Var 5) (atoms.Num 10000) true end 10000 false (fifth p memory routine eighth ninth eighth end typed drawn output) refl (not_more_by end 10000 (omega arith) (omega arith) (omega arith)))
            (done (computes p (st memory eighth eighth end) (st memory w0 eighth end) 2 functions.Add (atoms.Var 19) (atoms.Num 32768) top 32768 w0 (reg memory eighth eighth end c 19 h (omega arith) (omega arith) ∙ ap word at) refl (adds p memory top 32768 w0 (omega arith) (omega arith)) (put_second p memory routine eighth ninth eighth end w0 typed drawn output))
            (r.runs (Returns w0) (st m4 w0 eighth end) 4
            (done (copies p (st m1 w0 eighth end) (st m2 w0 eighth end) 21 (atoms.Var 2) w0 (second p m1 routine w0 ninth eighth end typed drawn output) p2.put_is)
            (done (copies p (st m2 w0 eighth end) (st m3 w0 eighth end) 18 (atoms.Var 2) w0 (second p m2 routine w0 ninth eighth end typed drawn output) p3.put_is)
            (done (copies p (st m3 w0 eighth end) (st m4 w0 eighth end) 19 (atoms.Var 5) end (fifth p m3 routine w0 ninth eighth end typed drawn output) p4.put_is)
            (returns (second p m4 routine w0 ninth eighth end typed drawn output))))))));
      }

  meets : 2 ≤ f → 10000 < top + 10 → MeetsLimit p f w OPEN_ACTS memory (routine ∷ eighth ∷ ninth ∷ 0 ∷ 0 ∷ []) typed output drawn c 4
  unfolding behind_label
  meets two full =
      let q = quits_full p has f w two OPEN_ACTS (acts.Quit ∷ []) memory (routine ∷ eighth ∷ ninth ∷ eighth ∷ end ∷ []) typed output drawn (c last_reg) c h refl in
      let cheap = q.few in
      record {
        memory' = memory;
        count = suc (suc (suc (suc q.count)));
        runs = opens_by (Stops AtQuit) (state memory [] typed drawn (output ++ closing (c last_reg) HeapLimit)) (suc (suc q.count))
            (taken (tested p (st memory eighth eighth end) comparisons.Greater (atoms.Var 5) (atoms.Num 10000) true end 10000 true (fifth p memory routine eighth ninth eighth end typed drawn output) refl (more_by end 10000 (omega arith) (omega arith) (omega arith))) refl q.runs);
        few = omega arith;
      }

pub open_works : OpenWorks
open_works = record {
  opens = λ p has f w memory typed output drawn routine eighth ninth c top h at fits few_r few_e few_n. opens p has f w memory typed output drawn routine eighth ninth c top h at (omega arith) fits few_r few_e few_n;
  meets = λ p has f w two memory typed output drawn routine eighth ninth c top h at low full. meets p has f w memory typed output drawn routine eighth ninth c top h at low two full;
}
