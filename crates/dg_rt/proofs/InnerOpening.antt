-- The routine that opens an inner construct does so.
use Rattle.std.proofs.Common.{◌≡◌, ◌≢◌, ℕ, suc, ◌+◌, ◌-◌, ◌<◌, ◌≤◌, true, false, List, [], ◌∷◌, ◌++◌, drop, refl, ap, ◌∙◌, subst, arith}
use Rattle.dg_base.specs.declared.run.Ending.TheVariants.{HeapLimit}
use Rattle.z_model.specs.declared.end.Halt.TheVariants.{AtQuit}
use Rattle.z_lang.specs.declared.act.Act.TheVariants as acts
use Rattle.z_lang.specs.declared.act.Atom.TheVariants as atoms
use Rattle.z_lang.specs.declared.act.Function.TheVariants as functions
use Rattle.z_lang.specs.declared.act.Comparison.TheVariants as comparisons
use Rattle.z_lang.specs.State.{State, Program, value}
use Rattle.z_lang.specs.Runs.{ActsRun as Runs, ActsOutcome as Outcome, Returns, Stops, taken, passed, done, returns, behind_label}
use Rattle.dg_rt.specs.declared.choices.TheConstants.{OPEN_INNER_ACTS}
use Rattle.dg_rt.specs.Cells.{with_cell, replaced, Holds}
use Rattle.dg_rt.specs.Areas.{heap_at, last_reg, state}
use Rattle.dg_rt.specs.Back.{at_place}
use Rattle.dg_rt.specs.RunTime.{HasRunTime}
use Rattle.dg_rt.specs.Closings.{closing}
use Rattle.dg_rt.specs.Charges.{MeetsLimit}
use Rattle.dg_rt.specs.Choices.{OpensInner, OpenInnerWorks}
use Rattle.dg_rt.proofs.Cells.{other_cell, same_cell}
use Rattle.dg_rt.proofs.Following.{word, tested, computes, copies, register, puts, local_1, local_2, put_1, put_2}
use Rattle.dg_rt.proofs.Locals.{adds, more_by, not_more_by}
use Rattle.dg_rt.proofs.Charging.{quits_full}
use Rattle.dg_rt.proofs.Rows.{put_row}

module _ (p : Program) (has : HasRunTime p) (f w : ℕ) (memory typed output : List ℕ) (drawn : ℕ) (c : ℕ → ℕ) (top : ℕ) (h : Holds p.world.layout memory c) (at : c 3 ≡ top) (low : top ≤ 10000) where
  abbrev st : List ℕ → ℕ → ℕ → State
  st m a b = state m (a ∷ b ∷ []) typed drawn output

  reg : (m : List ℕ) (a b : ℕ) (c' : ℕ → ℕ) (v : ℕ) → Holds p.world.layout m c' → 16 ≤ v → v < 240 → value p (st m a b) (atoms.Var v) ≡ word (c' (v - 16))
  reg m a b c' v hh le lt = let room = has.mapped.room in register p (st m a b) c' v hh le lt (omega arith)

  abbrev end : ℕ
  end = top + 10

  -- up to the test
  to_test : (o : Outcome) (s' : State) (k : ℕ) → Runs p f w OPEN_INNER_ACTS (drop 1 OPEN_INNER_ACTS) (st memory end 0) o s' k → Runs p f w OPEN_INNER_ACTS OPEN_INNER_ACTS (st memory 0 0) o s' (suc k)
  to_test o s' k rest =
      done (computes p (st memory 0 0) (st memory end 0) 1 functions.Add (atoms.Var 19) (atoms.Num 10) top 10 end (reg memory 0 0 c 19 h (omega arith) (omega arith) ∙ ap word at) refl (adds p memory top 10 end refl (omega arith)) (put_1 p memory 0 end (0 ∷ []) typed drawn output)) rest

  opens : top + 10 ≤ 10000 → OpensInner p f w memory typed output drawn c top
  opens fits =
      let room = has.mapped.room in
      let w0 = at_place top in
      let locals = end ∷ w0 ∷ [] in
      let local : (m : List ℕ) → value p (st m end w0) (atoms.Var 2) ≡ word w0 = λ m. local_2 p m end w0 [] typed drawn output in
      let r = put_row p has.mapped f w locals typed output drawn top local OPEN_INNER_ACTS (drop 5 OPEN_INNER_ACTS) 3 (atoms.Var 22 ∷ atoms.Var 23 ∷ []) (c 6 ∷ c 7 ∷ []) memory c c h (omega arith) (λ k lt. refl) (
        (λ m c' hh same. reg m end w0 c' 22 hh (omega arith) (omega arith) ∙ ap word (same 6 (omega arith))),
        h.words 6,
        ((λ m c' hh same. reg m end w0 c' 23 hh (omega arith) (omega arith) ∙ ap word (same 7 (omega arith))), h.words 7, tt),
      ) in
      let q = put_row p has.mapped f w locals typed output drawn top local OPEN_INNER_ACTS (drop 6 OPEN_INNER_ACTS) 8 (atoms.Num 65535 ∷ []) (65535 ∷ []) r.memory' r.cells' r.cells' r.holds (omega arith) (λ k lt. refl) ((λ m c' hh same. refl), omega arith, tt) in
      let m1 = q.memory' in
      let c1 = q.cells' in
      let p2 = puts p (st m1 end w0) c1 22 w0 q.holds (omega arith) (omega arith) (omega arith) (omega arith) in
      let m2 = with_cell m1 6 w0 in
      let c2 = replaced c1 6 w0 in
      let p3 = puts p (st m2 end w0) c2 19 end p2.holds (omega arith) (omega arith) (omega arith) (omega arith) in
      let m3 = with_cell m2 3 end in
      let c3 = replaced c2 3 end in
      let late : (k : ℕ) → k ≢ 3 → k ≢ 6 → c3 k ≡ c1 k = λ k n3 n6. other_cell c2 3 end k n3 ∙ other_cell c1 6 w0 k n6 in
      let a = r.are in
      let b = q.are in
      record {
        memory' = m3;
        cells' = c3;
        locals' = locals;
        holds = p3.holds;
        heap = same_cell c2 3 end;
        inner = other_cell c2 3 end 6 (λ e. (omega arith)) ∙ same_cell c1 6 w0;
        around = late (heap_at + (top + 3)) (λ e. (omega arith)) (λ e. (omega arith)) ∙ q.others (heap_at + (top + 3)) (λ e. (omega arith)) ∙ a.0;
        stop = late (heap_at + (top + 4)) (λ e. (omega arith)) (λ e. (omega arith)) ∙ q.others (heap_at + (top + 4)) (λ e. (omega arith)) ∙ fourth r.cells' a.1.0;
        gathers = late (heap_at + (top + 8)) (λ e. (omega arith)) (λ e. (omega arith)) ∙ b.0;
        others = λ k n3 n6 far. late k n3 n6 ∙ q.others k (λ le. (let z : heap_at + (top + 10) ≤ k = far (omega arith) in omega arith)) ∙ r.others k (λ le. (let z : heap_at + (top + 10) ≤ k = far (omega arith) in omega arith));
        runs = to_test (Returns 0) (st m3 end w0) 8
            (passed (tested p (st memory end 0) comparisons.Greater (atoms.Var 1) (atoms.Num 10000) true end 10000 false (local_1 p memory end (0 ∷ []) typed drawn output) refl (not_more_by end 10000 (omega arith) (omega arith) (omega arith)))
            (done (computes p (st memory end 0) (st memory end w0) 2 functions.Add (atoms.Var 19) (atoms.Num 32768) top 32768 w0 (reg memory end 0 c 19 h (omega arith) (omega arith) ∙ ap word at) refl (adds p memory top 32768 w0 (omega arith) (omega arith)) (put_2 p memory end 0 w0 [] typed drawn output))
            (r.runs (Returns 0) (st m3 end w0) 4
            (q.runs (Returns 0) (st m3 end w0) 3
            (done (copies p (st m1 end w0) (st m2 end w0) 22 (atoms.Var 2) w0 (local m1) p2.put_is)
            (done (copies p (st m2 end w0) (st m3 end w0) 19 (atoms.Var 1) end (local_1 p m2 end (w0 ∷ []) typed drawn output) p3.put_is)
            (returns refl)))))));
      }
    where
      fourth : (c' : ℕ → ℕ) → c' (heap_at + suc (top + 3)) ≡ c 7 → c' (heap_at + (top + 4)) ≡ c 7
      fourth c' e = let z : suc (top + 3) ≡ top + 4 = omega arith in subst (λ (k : ℕ). c' (heap_at + k) ≡ c 7) z e

  -- The heap's limit is met.
  meets : 2 ≤ f → 10000 < top + 10 → MeetsLimit p f w OPEN_INNER_ACTS memory (0 ∷ 0 ∷ []) typed output drawn c 3
  unfolding behind_label
  meets two full =
      let q = quits_full p has f w two OPEN_INNER_ACTS (acts.Quit ∷ []) memory (end ∷ 0 ∷ []) typed output drawn (c last_reg) c h refl in
      let cheap = q.few in
      record {
        memory' = memory;
        count = suc (suc (suc q.count));
        runs = to_test (Stops AtQuit) (state memory [] typed drawn (output ++ closing (c last_reg) HeapLimit)) (suc (suc q.count))
            (taken (tested p (st memory end 0) comparisons.Greater (atoms.Var 1) (atoms.Num 10000) true end 10000 true (local_1 p memory end (0 ∷ []) typed drawn output) refl (more_by end 10000 (omega arith) (omega arith) (omega arith))) refl q.runs);
        few = omega arith;
      }

pub open_inner_works : OpenInnerWorks
open_inner_works = record {
  opens = λ p has f w memory typed output drawn c top h at fits. opens p has f w memory typed output drawn c top h at (omega arith) fits;
  meets = λ p has f w two memory typed output drawn c top h at low full. meets p has f w memory typed output drawn c top h at low two full;
}
