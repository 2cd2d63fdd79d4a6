-- The routine of a rule that is found does so.
use Rattle.std.proofs.Common.{◌≡◌, ◌≢◌, ℕ, suc, ◌+◌, ◌-◌, ◌<◌, ◌≤◌, true, false, List, [], ◌∷◌, ◌++◌, drop, refl, ap, ◌∙◌, arith}
use Rattle.std.proofs.lemmas.Bool.{eq-eqb, ne_eqb}
use Rattle.dg_base.specs.declared.run.Ending.TheVariants.{HeapLimit}
use Rattle.z_model.specs.declared.end.Halt.TheVariants.{AtQuit}
use Rattle.z_lang.specs.declared.act.Act.TheVariants as acts
use Rattle.z_lang.specs.declared.act.Atom.TheVariants as atoms
use Rattle.z_lang.specs.declared.act.Function.TheVariants as functions
use Rattle.z_lang.specs.declared.act.Comparison.TheVariants as comparisons
use Rattle.z_lang.specs.State.{State, Program, value}
use Rattle.z_lang.specs.Runs.{ActsRun as Runs, Returns, Stops, taken, passed, done, returns, behind_label}
use Rattle.dg_rt.specs.declared.rules.TheConstants.{FOUND_ACTS}
use Rattle.dg_rt.specs.Cells.{with_cell, replaced, Holds}
use Rattle.dg_rt.specs.Areas.{heap_at, last_reg, state}
use Rattle.dg_rt.specs.Back.{at_place}
use Rattle.dg_rt.specs.RunTime.{HasRunTime}
use Rattle.dg_rt.specs.Closings.{closing}
use Rattle.dg_rt.specs.Charges.{MeetsLimit}
use Rattle.dg_rt.specs.Rules.{KeepsFirst, OpensFurther, FoundWorks}
use Rattle.dg_rt.proofs.Cells.{other_cell, same_cell}
use Rattle.dg_rt.proofs.Following.{word, tested, computes, copies, register, puts}
use Rattle.dg_rt.proofs.Locals.{get_1, get_2, get_3, set_1, set_2, set_3, adds, more_by, not_more_by}
use Rattle.dg_rt.proofs.Charging.{quits_full}
use Rattle.dg_rt.proofs.Rows.{row_same, put_row}

module _ (p : Program) (has : HasRunTime p) (f w : ℕ) (memory typed output : List ℕ) (drawn enter self next : ℕ) (c : ℕ → ℕ) (h : Holds p.world.layout memory c) where
  abbrev st : List ℕ → ℕ → ℕ → ℕ → State
  st m a b d = state m (a ∷ b ∷ d ∷ 0 ∷ []) typed drawn output

  reg : (m : List ℕ) (a b d : ℕ) (c' : ℕ → ℕ) (v : ℕ) → Holds p.world.layout m c' → 16 ≤ v → v < 240 → value p (st m a b d) (atoms.Var v) ≡ word (c' (v - 16))
  reg m a b d c' v hh le lt = let room = has.mapped.room in register p (st m a b d) c' v hh le lt (omega arith)

  keeps : c 12 ≡ 0 → enter < 65536 → KeepsFirst p f w memory typed output drawn enter self next c
  keeps none few =
      let room = has.mapped.room in
      let put = puts p (st memory enter self next) c 28 enter h (omega arith) (omega arith) (omega arith) few in
      let m1 = with_cell memory 12 enter in
      record {
        memory' = m1;
        cells' = replaced c 12 enter;
        holds = put.holds;
        begin = same_cell c 12 enter;
        others = λ k ne. other_cell c 12 enter k ne;
        runs = passed (tested p (st memory enter self next) comparisons.Equal (atoms.Var 28) (atoms.Num 0) false (c 12) 0 true (reg memory enter self next c 28 h (omega arith) (omega arith)) refl (eq-eqb (c 12) 0 none))
            (done (copies p (st memory enter self next) (st m1 enter self next) 28 (atoms.Var 1) enter (get_1 p memory enter self next 0 typed drawn output) put.put_is)
            (returns (get_3 p m1 enter self next 0 typed drawn output)));
      }

  module _ (top : ℕ) (some : c 12 ≢ 0) (at : c 3 ≡ top) (low : top ≤ 10000) (few_p : c 37 ≤ 10000) where
    abbrev begun : ℕ
    begun = top + c 37

    abbrev end : ℕ
    end = top + c 37 + 10

    -- up to the test
    found_by : (o : _) (s' : State) (k : ℕ) → Runs p f w FOUND_ACTS (drop 6 FOUND_ACTS) (st memory end self next) o s' k → Runs p f w FOUND_ACTS FOUND_ACTS (st memory enter self next) o s' (suc (suc (suc k)))
    unfolding behind_label
    found_by o s' k rest =
        taken (tested p (st memory enter self next) comparisons.Equal (atoms.Var 28) (atoms.Num 0) false (c 12) 0 false (reg memory enter self next c 28 h (omega arith) (omega arith)) refl (ne_eqb (c 12) 0 some)) refl
        (done (computes p (st memory enter self next) (st memory begun self next) 1 functions.Add (atoms.Var 19) (atoms.Var 53) top (c 37) begun (reg memory enter self next c 19 h (omega arith) (omega arith) ∙ ap word at) (reg memory enter self next c 53 h (omega arith) (omega arith)) (adds p memory top (c 37) begun refl (omega arith)) (set_1 p memory enter self next 0 begun typed drawn output))
        (done (computes p (st memory begun self next) (st memory end self next) 1 functions.Add (atoms.Var 1) (atoms.Num 10) begun 10 end (get_1 p memory begun self next 0 typed drawn output) refl (adds p memory begun 10 end refl (omega arith)) (set_1 p memory begun self next 0 end typed drawn output))
        rest))

    opens : top + 10 + c 37 ≤ 10000 → self < 65536 → OpensFurther p f w memory typed output drawn enter self next c top
    opens fits few_s =
        let room = has.mapped.room in
        let w0 = at_place top in
        let locals = end ∷ w0 ∷ self ∷ 0 ∷ [] in
        let words = c 5 ∷ self ∷ c 4 ∷ c 6 ∷ c 7 ∷ c 1 ∷ c 29 ∷ c 8 ∷ c 10 ∷ c 11 ∷ c 16 ∷ c 17 ∷ c 18 ∷ c 19 ∷ c 20 ∷ c 21 ∷ c 22 ∷ c 23 ∷ c 24 ∷ c 25 ∷ c 26 ∷ c 27 ∷ [] in
        let them = atoms.Var 21 ∷ atoms.Var 3 ∷ atoms.Var 20 ∷ atoms.Var 22 ∷ atoms.Var 23 ∷ atoms.Var 17 ∷ atoms.Var 45 ∷ atoms.Var 24 ∷ atoms.Var 26 ∷ atoms.Var 27 ∷ atoms.Var 32 ∷ atoms.Var 33 ∷ atoms.Var 34 ∷ atoms.Var 35 ∷ atoms.Var 36 ∷ atoms.Var 37 ∷ atoms.Var 38 ∷ atoms.Var 39 ∷ atoms.Var 40 ∷ atoms.Var 41 ∷ atoms.Var 42 ∷ atoms.Var 43 ∷ [] in
        let r = put_row p has.mapped f w locals typed output drawn top (λ m. get_2 p m end w0 self 0 typed drawn output) FOUND_ACTS (drop 31 FOUND_ACTS) 0 them words memory c c h (omega arith) (λ k lt. refl) ((λ m c' hh same. reg m end w0 self c' 21 hh (omega arith) (omega arith) ∙ ap word (same 5 (omega arith))), h.words 5, ((λ m c' hh same. get_3 p m end w0 self 0 typed drawn output), few_s, ((λ m c' hh same. reg m end w0 self c' 20 hh (omega arith) (omega arith) ∙ ap word (same 4 (omega arith))), h.words 4, ((λ m c' hh same. reg m end w0 self c' 22 hh (omega arith) (omega arith) ∙ ap word (same 6 (omega arith))), h.words 6, ((λ m c' hh same. reg m end w0 self c' 23 hh (omega arith) (omega arith) ∙ ap word (same 7 (omega arith))), h.words 7, ((λ m c' hh same. reg m end w0 self c' 17 hh (omega arith) (omega arith) ∙ ap word (same 1 (omega arith))), h.words 1, ((λ m c' hh same. reg m end w0 self c' 45 hh (omega arith) (omega arith) ∙ ap word (same 29 (omega arith))), h.words 29, ((λ m c' hh same. reg m end w0 self c' 24 hh (omega arith) (omega arith) ∙ ap word (same 8 (omega arith))), h.words 8, ((λ m c' hh same. reg m end w0 self c' 26 hh (omega arith) (omega arith) ∙ ap word (same 10 (omega arith))), h.words 10, ((λ m c' hh same. reg m end w0 self c' 27 hh (omega arith) (omega arith) ∙ ap word (same 11 (omega arith))), h.words 11, ((λ m c' hh same. reg m end w0 self c' 32 hh (omega arith) (omega arith) ∙ ap word (same 16 (omega arith))), h.words 16, ((λ m c' hh same. reg m end w0 self c' 33 hh (omega arith) (omega arith) ∙ ap word (same 17 (omega arith))), h.words 17, ((λ m c' hh same. reg m end w0 self c' 34 hh (omega arith) (omega arith) ∙ ap word (same 18 (omega arith))), h.words 18, ((λ m c' hh same. reg m end w0 self c' 35 hh (omega arith) (omega arith) ∙ ap word (same 19 (omega arith))), h.words 19, ((λ m c' hh same. reg m end w0 self c' 36 hh (omega arith) (omega arith) ∙ ap word (same 20 (omega arith))), h.words 20, ((λ m c' hh same. reg m end w0 self c' 37 hh (omega arith) (omega arith) ∙ ap word (same 21 (omega arith))), h.words 21, ((λ m c' hh same. reg m end w0 self c' 38 hh (omega arith) (omega arith) ∙ ap word (same 22 (omega arith))), h.words 22, ((λ m c' hh same. reg m end w0 self c' 39 hh (omega arith) (omega arith) ∙ ap word (same 23 (omega arith))), h.words 23, ((λ m c' hh same. reg m end w0 self c' 40 hh (omega arith) (omega arith) ∙ ap word (same 24 (omega arith))), h.words 24, ((λ m c' hh same. reg m end w0 self c' 41 hh (omega arith) (omega arith) ∙ ap word (same 25 (omega arith))), h.words 25, ((λ m c' hh same. reg m end w0 self c' 42 hh (omega arith) (omega arith) ∙ ap word (same 26 (omega arith))), h.words 26, ((λ m c' hh same. reg m end w0 self c' 43 hh (omega arith) (omega arith) ∙ ap word (same 27 (omega arith))), h.words 27, tt)))))))))))))))))))))) in
        let m1 = r.memory' in
        let c1 = r.cells' in
        let p2 = puts p (st m1 end w0 self) c1 21 w0 r.holds (omega arith) (omega arith) (omega arith) (omega arith) in
        let m2 = with_cell m1 5 w0 in
        let c2 = replaced c1 5 w0 in
        let p3 = puts p (st m2 end w0 self) c2 18 w0 p2.holds (omega arith) (omega arith) (omega arith) (omega arith) in
        let m3 = with_cell m2 2 w0 in
        let c3 = replaced c2 2 w0 in
        let p4 = puts p (st m3 end w0 self) c3 19 end p3.holds (omega arith) (omega arith) (omega arith) (omega arith) in
        let m4 = with_cell m3 3 end in
        let c4 = replaced c3 3 end in
        let late : (k : ℕ) → k ≢ 3 → k ≢ 5 → k ≢ 2 → c4 k ≡ c1 k = λ k n3 n5 n2. other_cell c3 3 end k n3 ∙ other_cell c2 2 w0 k n2 ∙ other_cell c1 5 w0 k n5 in
        let kept : c4 12 ≡ c 12 = late 12 (λ x. (omega arith)) (λ x. (omega arith)) (λ x. (omega arith)) ∙ r.others 12 (λ q. (omega arith)) in
        record {
          memory' = m4;
          cells' = c4;
          locals' = locals;
          holds = p4.holds;
          heap = same_cell c3 3 end ∙ omega arith;
          choice = other_cell c3 3 end 5 (λ x. (omega arith)) ∙ other_cell c2 2 w0 5 (λ x. (omega arith)) ∙ same_cell c1 5 w0;
          mark = other_cell c3 3 end 2 (λ x. (omega arith)) ∙ same_cell c2 2 w0;
          row = row_same c1 c4 (top + 0) words (λ k le. late (heap_at + k) (λ x. (omega arith)) (λ x. (omega arith)) (λ x. (omega arith))) r.are;
          others = λ k n3 n5 n2 far. late k n3 n5 n2 ∙ r.others k (λ q. (let z : heap_at + (top + 22) ≤ k = far (omega arith) in omega arith));
          runs = found_by (Returns (c 12)) (st m4 end w0 self) 29
              (passed (tested p (st memory end self next) comparisons.Greater (atoms.Var 1) (atoms.Num 10000) true end 10000 false (get_1 p memory end self next 0 typed drawn output) refl (not_more_by end 10000 (omega arith) (omega arith) (omega arith)))
              (done (copies p (st memory end self next) (st memory end self self) 3 (atoms.Var 2) self (get_2 p memory end self next 0 typed drawn output) (set_3 p memory end self next 0 self typed drawn output))
              (done (computes p (st memory end self self) (st memory end w0 self) 2 functions.Add (atoms.Var 19) (atoms.Num 32768) top 32768 w0 (reg memory end self self c 19 h (omega arith) (omega arith) ∙ ap word at) refl (adds p memory top 32768 w0 (omega arith) (omega arith)) (set_2 p memory end self self 0 w0 typed drawn output))
              (r.runs (Returns (c 12)) (st m4 end w0 self) 4
              (done (copies p (st m1 end w0 self) (st m2 end w0 self) 21 (atoms.Var 2) w0 (get_2 p m1 end w0 self 0 typed drawn output) p2.put_is)
              (done (copies p (st m2 end w0 self) (st m3 end w0 self) 18 (atoms.Var 2) w0 (get_2 p m2 end w0 self 0 typed drawn output) p3.put_is)
              (done (copies p (st m3 end w0 self) (st m4 end w0 self) 19 (atoms.Var 1) end (get_1 p m3 end w0 self 0 typed drawn output) p4.put_is)
              (returns (reg m4 end w0 self c4 28 p4.holds (omega arith) (omega arith) ∙ ap word kept)))))))));
        }

    meets : 2 ≤ f → 10000 < top + 10 + c 37 → MeetsLimit p f w FOUND_ACTS memory (enter ∷ self ∷ next ∷ 0 ∷ []) typed output drawn c 5
    unfolding behind_label
    meets two full =
        let q = quits_full p has f w two FOUND_ACTS (acts.Quit ∷ []) memory (end ∷ self ∷ next ∷ 0 ∷ []) typed output drawn (c last_reg) c h refl in
        let cheap = q.few in
        record {
          memory' = memory;
          count = suc (suc (suc (suc (suc q.count))));
          runs = found_by (Stops AtQuit) (state memory [] typed drawn (output ++ closing (c last_reg) HeapLimit)) (suc (suc q.count))
              (taken (tested p (st memory end self next) comparisons.Greater (atoms.Var 1) (atoms.Num 10000) true end 10000 true (get_1 p memory end self next 0 typed drawn output) refl (more_by end 10000 (omega arith) (omega arith) (omega arith))) refl q.runs);
          few = omega arith;
        }

pub found_works : FoundWorks
found_works = record {
  keeps = λ p has f w memory typed output drawn enter self next c h none few. keeps p has f w memory typed output drawn enter self next c h none few;
  opens = λ p has f w memory typed output drawn enter self next c top h some at fits few. opens p has f w memory typed output drawn enter self next c h top some at (omega arith) (omega arith) fits few;
  meets = λ p has f w two memory typed output drawn enter self next c top h some at low few_p full. meets p has f w memory typed output drawn enter self next c h top some at low (omega arith) two full;
}
