-- The routine that opens a gathering does so.
use Rattle.std.proofs.Common.{◌≡◌, ℕ, suc, ◌+◌, ◌<◌, ◌≤◌, true, false, List, [], ◌∷◌, ◌++◌, drop, None, refl, sym, ap, ◌∙◌, subst, arith}
use Rattle.std.proofs.lemmas.Bool.{eq-eqb, ne_eqb}
use Rattle.dg_base.specs.declared.run.Ending.TheVariants.{HeapLimit, AuxLimit}
use Rattle.z_model.specs.declared.end.Halt.TheVariants.{AtQuit}
use Rattle.z_lang.specs.declared.act.Act.{Act}
use Rattle.z_lang.specs.declared.act.Act.TheVariants as acts
use Rattle.z_lang.specs.declared.act.Args.TheVariants as args
use Rattle.z_lang.specs.declared.act.Atom.TheVariants as atoms
use Rattle.z_lang.specs.declared.act.Comparison.TheVariants as comparisons
use Rattle.z_lang.specs.declared.act.Function.TheVariants as functions
use Rattle.z_lang.specs.declared.act.Width.TheVariants as widths
use Rattle.z_lang.specs.State.{State, Program, value}
use Rattle.z_lang.specs.Runs.{ActsRun as Runs, ActsOutcome, Returns, Stops, at_label, taken, passed, done, calls_last, returns, behind_label}
use Rattle.dg_rt.specs.declared.numbers.TheConstants.{AUX_LIMIT}
use Rattle.dg_rt.specs.declared.gathering.TheConstants.{OPEN_GATHERING_ACTS}
use Rattle.dg_rt.specs.declared.closings.TheConstants.{AUX_LIMIT_ACTS}
use Rattle.dg_rt.specs.inside.Walks.{steps}
use Rattle.dg_rt.specs.Cells.{at_cell, with_cell, replaced, Holds}
use Rattle.dg_rt.specs.Areas.{last_reg, kept_at, state}
use Rattle.dg_rt.specs.RunTime.{routine_of, HasRunTime}
use Rattle.dg_rt.specs.Closings.{closing, closing_most}
use Rattle.dg_rt.specs.Gatherings.{NextAt, at_first, at_end, MeetsThe, OpensGathering, GatherWorks}
use Rattle.dg_rt.proofs.Cells.{holds_with, reads_cell, writes_cell, other_cell, same_cell}
use Rattle.dg_rt.proofs.Charging.{quits_full}
use Rattle.dg_rt.proofs.Closing.{closings_work}
use Rattle.dg_rt.proofs.Following.{word, tested, computes, copies, writes, register, puts, local_1, local_2, put_1, put_2}
use Rattle.dg_rt.proofs.Locals.{adds, more_by, not_more_by}
use Rattle.dg_rt.proofs.UnifySteps.{steps_are}

-- ## The limit

-- The closing of the limit of what is gathered is called, and ends the run.
pub record AuxQuits (p : Program) (f w : ℕ) (body more : List Act) (memory locals typed output : List ℕ) (drawn last : ℕ) : Type 0 where
  pub count : ℕ
  pub runs : Runs p f w body (acts.Call None (atoms.Routine AUX_LIMIT) args.Zero ∷ more) (state memory locals typed drawn output) (Stops AtQuit) (state memory [] typed drawn (output ++ closing last AuxLimit)) (suc count)
  pub few : count ≤ closing_most

pub quits_aux : (p : Program) → HasRunTime p → (f w : ℕ) → 2 ≤ f → (body more : List Act) (memory locals typed output : List ℕ) (drawn last : ℕ) (cells : ℕ → ℕ) →
    Holds p.world.layout memory cells → cells last_reg ≡ last → AuxQuits p f w body more memory locals typed output drawn last
quits_aux p has f w two body more memory locals typed output drawn last cells h is =
    let c = closings_work.aux p has memory typed output drawn cells h in
    record {
      count = c.count;
      runs = subst (λ (x : ℕ). Runs p f w body (acts.Call None (atoms.Routine AUX_LIMIT) args.Zero ∷ more) (state memory locals typed drawn output) (Stops AtQuit) (state memory [] typed drawn (output ++ closing x AuxLimit)) (suc c.count)) is
          (calls_last {f' = 1} {w' = 0} {n = c.count} {xs = (0, 0, 0)} {r = routine_of 0 AUX_LIMIT_ACTS} refl refl (has.each 13 (routine_of 0 AUX_LIMIT_ACTS) refl) (omega arith) (omega arith) c.runs);
      few = c.few;
    }

-- ## The routine

module _ (p : Program) (has : HasRunTime p) (f w : ℕ) (memory typed output : List ℕ) (drawn : ℕ) (cells : ℕ → ℕ) (h : Holds p.world.layout memory cells) where
  abbrev heap : ℕ
  heap = cells 3

  abbrev body : List Act
  body = OPEN_GATHERING_ACTS

  abbrev st : List ℕ → ℕ → ℕ → State
  st m a b = state m (a ∷ b ∷ []) typed drawn output

  to_heap : (low : heap ≤ 10000) (o : ActsOutcome) (s' : State) (n : ℕ) → Runs p f w body (drop 1 body) (st memory (heap + 10) 0) o s' n → Runs p f w body body (st memory 0 0) o s' (suc n)
  to_heap low o s' n rest =
      let room = has.mapped.room in
      done (computes p (st memory 0 0) (st memory (heap + 10) 0) 1 functions.Add (atoms.Var 19) (atoms.Num 10) heap 10 (heap + 10) (register p (st memory 0 0) cells 19 h (omega arith) (omega arith) (omega arith)) refl (adds p memory heap 10 (heap + 10) refl (omega arith)) (put_1 p memory 0 (heap + 10) (0 ∷ []) typed drawn output)) rest

  -- ---- the heap's limit

  meets_heap : 2 ≤ f → heap ≤ 10000 → 10000 < heap + 10 → MeetsThe p HeapLimit f w body memory (0 ∷ 0 ∷ []) typed output drawn cells 12
  unfolding behind_label
  meets_heap two low full =
      let q = quits_full p has f w two body (drop 17 body) memory ((heap + 10) ∷ 0 ∷ []) typed output drawn (cells last_reg) cells h refl in
      let cheap = q.few in
      record {
        memory' = memory;
        count = suc (suc (suc q.count));
        runs = to_heap low (Stops AtQuit) (state memory [] typed drawn (output ++ closing (cells last_reg) HeapLimit)) (suc (suc q.count))
            (taken (tested p (st memory (heap + 10) 0) comparisons.Greater (atoms.Var 1) (atoms.Num 10000) true (heap + 10) 10000 true (local_1 p memory (heap + 10) (0 ∷ []) typed drawn output) refl (more_by (heap + 10) 10000 (omega arith) (omega arith) full)) refl q.runs);
        few = omega arith;
      }

  -- ---- where it lies

  record Reaches (a k : ℕ) : Type 0 where
    count : ℕ
    few : count ≤ 3
    runs : (o : ActsOutcome) (s' : State) (n : ℕ) → Runs p f w body (drop 6 body) (st memory (at_cell k) 0) o s' n → Runs p f w body (drop 2 body) (st memory a 0) o s' (steps count n)

  copied : (a : ℕ) (o : ActsOutcome) (s' : State) (n : ℕ) → Runs p f w body (drop 3 body) (st memory 24694 0) o s' n → Runs p f w body (drop 2 body) (st memory a 0) o s' (suc n)
  copied a o s' n rest = done (copies p (st memory a 0) (st memory 24694 0) 1 (atoms.Num 24694) 24694 refl (put_1 p memory a 24694 (0 ∷ []) typed drawn output)) rest

  gather_is : (a b : ℕ) → value p (st memory a b) (atoms.Var 45) ≡ word (cells 29)
  gather_is a b = let room = has.mapped.room in register p (st memory a b) cells 45 h (omega arith) (omega arith) (omega arith)

  reaches : (a k : ℕ) → NextAt cells k → Reaches a k
  unfolding behind_label
  reaches a k (at_first none is) = record {
    count = 2;
    few = omega arith;
    runs = λ o s' n rest.
        copied a o s' (suc n)
        (taken (tested p (st memory 24694 0) comparisons.Equal (atoms.Var 45) (atoms.Num 0) true (cells 29) 0 true (gather_is 24694 0) refl (eq-eqb (cells 29) 0 none)) refl
        (subst (λ (i : ℕ). Runs p f w body (drop 6 body) (st memory (at_cell i) 0) o s' n) is rest));
  }
  reaches a k (at_end j around vs g is) =
      let named = g.named in
      let low = g.low in
      let high = g.high in
      let end : cells (j + 1) ≡ at_cell k = g.end ∙ ap at_cell (sym is) in
      let room = has.mapped.room in
      record {
        count = 3;
        few = omega arith;
        runs = λ o s' n rest.
            copied a o s' (suc (suc n))
            (passed (tested p (st memory 24694 0) comparisons.Equal (atoms.Var 45) (atoms.Num 0) true (cells 29) 0 false (gather_is 24694 0) refl (ne_eqb (cells 29) 0 (λ (e : cells 29 ≡ 0). (omega arith))))
            (done (computes p (st memory 24694 0) (st memory (at_cell k) 0) 1 functions.Word (atoms.Var 45) (atoms.Num 1) (cells 29) 1 (at_cell k) (gather_is 24694 0) refl (reads_cell p.world.layout memory cells (cells 29) 1 (j + 1) h (omega arith) (omega arith) ∙ ap word end) (put_1 p memory 24694 (at_cell k) (0 ∷ []) typed drawn output))
            (at_label rest)));
      }

  -- up to the test of what is gathered
  module _ (k : ℕ) (low : heap + 10 ≤ 10000) (next : NextAt cells k) (few : k ≤ kept_at) where
    abbrev e : ℕ
    e = at_cell (k + 2)

    to_test : (o : ActsOutcome) (s' : State) (n : ℕ) → Runs p f w body (drop 7 body) (st memory (at_cell k) e) o s' n → Runs p f w body body (st memory 0 0) o s' (suc (suc (steps (reaches (heap + 10) k next).count (suc n))))
    to_test o s' n rest =
        let r = reaches (heap + 10) k next in
        to_heap (omega arith) o s' (suc (steps r.count (suc n)))
        (passed (tested p (st memory (heap + 10) 0) comparisons.Greater (atoms.Var 1) (atoms.Num 10000) true (heap + 10) 10000 false (local_1 p memory (heap + 10) (0 ∷ []) typed drawn output) refl (not_more_by (heap + 10) 10000 (omega arith) (omega arith) low))
        (r.runs o s' (suc n)
        (done (computes p (st memory (at_cell k) 0) (st memory (at_cell k) e) 2 functions.Add (atoms.Var 1) (atoms.Num 4) (at_cell k) 4 e (local_1 p memory (at_cell k) (0 ∷ []) typed drawn output) refl (adds p memory (at_cell k) 4 e (omega arith) (omega arith)) (put_2 p memory (at_cell k) 0 e [] typed drawn output)) rest)))

    meets_aux : 2 ≤ f → kept_at < k + 2 → MeetsThe p AuxLimit f w body memory (0 ∷ 0 ∷ []) typed output drawn cells 12
    unfolding behind_label
    meets_aux two full =
        let q = quits_aux p has f w two body (drop 14 body) memory (at_cell k ∷ e ∷ []) typed output drawn (cells last_reg) cells h refl in
        let cheap = q.few in
        let r = reaches (heap + 10) k next in
        let few_steps = r.few in
        record {
          memory' = memory;
          count = suc (suc (steps r.count (suc (suc (suc q.count)))));
          runs = to_test (Stops AtQuit) (state memory [] typed drawn (output ++ closing (cells last_reg) AuxLimit)) (suc (suc q.count))
              (taken (tested p (st memory (at_cell k) e) comparisons.Greater (atoms.Var 2) (atoms.Num 28694) true e 28694 true (local_2 p memory (at_cell k) e [] typed drawn output) refl (more_by e 28694 (omega arith) (omega arith) (omega arith))) refl q.runs);
          few = omega (arith, steps_are r.count (suc (suc (suc q.count))));
        }

    opens : 12315 ≤ k → k + 2 ≤ kept_at → OpensGathering p f w memory typed output drawn cells k
    opens low_k fits =
        let room = has.mapped.room in
        let r = reaches (heap + 10) k next in
        let few_steps = r.few in
        let a = at_cell k in
        let g = cells 29 in
        let m1 = with_cell memory k g in
        let c1 = replaced cells k g in
        let h1 : Holds p.world.layout m1 c1 = holds_with p.world.layout memory cells k g h (omega arith) (h.words 29) in
        let m2 = with_cell m1 (k + 1) e in
        let c2 = replaced c1 (k + 1) e in
        let h2 : Holds p.world.layout m2 c2 = holds_with p.world.layout m1 c1 (k + 1) e h1 (omega arith) (omega arith) in
        let put = puts p (st m2 a e) c2 45 a h2 (omega arith) (omega arith) (omega arith) (omega arith) in
        let m3 = with_cell m2 29 a in
        let c3 = replaced c2 29 a in
        record {
          memory' = m3;
          cells' = c3;
          locals' = a ∷ e ∷ [];
          holds = put.holds;
          named = same_cell c2 29 a;
          before = other_cell c2 29 a k (λ q. (omega arith)) ∙ other_cell c1 (k + 1) e k (λ q. (omega arith)) ∙ same_cell cells k g;
          end = other_cell c2 29 a (k + 1) (λ q. (omega arith)) ∙ same_cell c1 (k + 1) e;
          others = λ i ng nk nk1. other_cell c2 29 a i ng ∙ other_cell c1 (k + 1) e i nk1 ∙ other_cell cells k g i nk;
          count = suc (suc (steps r.count 6));
          few = omega (arith, steps_are r.count 6);
          runs = to_test (Returns 0) (st m3 a e) 5
              (passed (tested p (st memory a e) comparisons.Greater (atoms.Var 2) (atoms.Num 28694) true e 28694 false (local_2 p memory a e [] typed drawn output) refl (not_more_by e 28694 (omega arith) (omega arith) (omega arith)))
              (done (writes p (st memory a e) widths.Word (atoms.Var 1) (atoms.Num 0) (atoms.Var 45) a 0 g m1 (local_1 p memory a (e ∷ []) typed drawn output) refl (gather_is a e) (writes_cell p.world.layout memory cells a 0 g k h (omega arith) (omega arith)))
              (done (writes p (st m1 a e) widths.Word (atoms.Var 1) (atoms.Num 1) (atoms.Var 2) a 1 e m2 (local_1 p m1 a (e ∷ []) typed drawn output) refl (local_2 p m1 a e [] typed drawn output) (writes_cell p.world.layout m1 c1 a 1 e (k + 1) h1 (omega arith) (omega arith)))
              (done (copies p (st m2 a e) (st m3 a e) 45 (atoms.Var 1) a (local_1 p m2 a (e ∷ []) typed drawn output) put.put_is)
              (returns refl)))));
        }

-- where the next one lies is behind the trail
next_low : (cells : ℕ → ℕ) (k : ℕ) → NextAt cells k → 12315 ≤ k
next_low cells k (at_first none is) = omega arith
next_low cells k (at_end j around vs g is) = let low = g.low in omega arith

pub gather_works : GatherWorks
gather_works = record {
  opens = λ p has f w memory typed output drawn cells k h low next fits. opens p has f w memory typed output drawn cells h k low next (omega arith) (next_low cells k next) fits;
  meets_heap = λ p has f w two memory typed output drawn cells h low full. meets_heap p has f w memory typed output drawn cells h two low full;
  meets_aux = λ p has f w two memory typed output drawn cells k h low next few full. meets_aux p has f w memory typed output drawn cells h k low next few two full;
}
