-- The routine that takes cells of the heap does so.
use Rattle.std.proofs.Common.{◌≡◌, ℕ, suc, ◌+◌, ◌<◌, ◌≤◌, true, false, List, [], ◌∷◌, ◌++◌, drop, None, refl, ◌∙◌, subst, arith}
use Rattle.dg_base.specs.declared.run.Ending.TheVariants.{HeapLimit}
use Rattle.z_model.specs.declared.end.Halt.TheVariants.{AtQuit}
use Rattle.z_lang.specs.declared.act.Act.{Act}
use Rattle.z_lang.specs.declared.act.Act.TheVariants as acts
use Rattle.z_lang.specs.declared.act.Args.TheVariants as args
use Rattle.z_lang.specs.declared.act.Atom.TheVariants as atoms
use Rattle.z_lang.specs.declared.act.Function.TheVariants as functions
use Rattle.z_lang.specs.declared.act.Comparison.TheVariants as comparisons
use Rattle.z_lang.specs.State.{State, Program}
use Rattle.z_lang.specs.Runs.{ActsRun as Runs, Returns, Stops, taken, passed, done, calls_last, returns, behind_label}
use Rattle.dg_rt.specs.declared.numbers.TheConstants.{HEAP_LIMIT}
use Rattle.dg_rt.specs.declared.heap.TheConstants.{CHARGE_ACTS}
use Rattle.dg_rt.specs.declared.closings.TheConstants.{HEAP_LIMIT_ACTS}
use Rattle.dg_rt.specs.Cells.{with_cell, replaced, Holds}
use Rattle.dg_rt.specs.Areas.{heap_reg, last_reg, state}
use Rattle.dg_rt.specs.RunTime.{routine_of, HasRunTime}
use Rattle.dg_rt.specs.Closings.{closing, closing_most}
use Rattle.dg_rt.specs.Charges.{MeetsLimit, Charged, ChargeWorks}
use Rattle.dg_rt.proofs.Cells.{other_cell, same_cell}
use Rattle.dg_rt.proofs.Following.{tested, computes, copies, register, puts, local_1, put_1}
use Rattle.dg_rt.proofs.Locals.{adds, more_by, not_more_by}
use Rattle.dg_rt.proofs.Standing.{heap_limit_at}
use Rattle.dg_rt.proofs.Closing.{closings_work}

-- ## The limit

-- The closing of the heap's limit is called, and ends the run.
pub record Quits (p : Program) (f w : ℕ) (body more : List Act) (memory locals typed output : List ℕ) (drawn last : ℕ) : Type 0 where
  pub count : ℕ
  pub runs : Runs p f w body (acts.Call None (atoms.Routine HEAP_LIMIT) args.Zero ∷ more) (state memory locals typed drawn output) (Stops AtQuit)
      (state memory [] typed drawn (output ++ closing last HeapLimit)) (suc count)
  pub few : count ≤ closing_most

pub quits_full : (p : Program) → HasRunTime p → (f w : ℕ) → 2 ≤ f → (body more : List Act) (memory locals typed output : List ℕ) (drawn last : ℕ) (cells : ℕ → ℕ) →
    Holds p.world.layout memory cells → cells last_reg ≡ last → Quits p f w body more memory locals typed output drawn last
quits_full p has f w two body more memory locals typed output drawn last cells h is =
    let c = closings_work.heap p has memory typed output drawn cells h in
    record {
      count = c.count;
      runs = subst (λ (x : ℕ). Runs p f w body (acts.Call None (atoms.Routine HEAP_LIMIT) args.Zero ∷ more) (state memory locals typed drawn output) (Stops AtQuit) (state memory [] typed drawn (output ++ closing x HeapLimit)) (suc c.count)) is
          (calls_last {f' = 1} {w' = 0} {n = c.count} {xs = (0, 0, 0)} {r = routine_of 0 HEAP_LIMIT_ACTS} refl refl (heap_limit_at p has) (omega arith) (omega arith) c.runs);
      few = c.few;
    }

-- ## The routine

module _ (p : Program) (has : HasRunTime p) (f w : ℕ) (memory typed output : List ℕ) (drawn n : ℕ) (cells : ℕ → ℕ) (h : Holds p.world.layout memory cells) (low : cells heap_reg ≤ 10000) (few : n ≤ 10001) where
  abbrev heap : ℕ
  heap = cells 3

  abbrev m1 : List ℕ
  m1 = with_cell memory 14 (49152 + heap)

  abbrev c1 : ℕ → ℕ
  c1 = replaced cells 14 (49152 + heap)

  abbrev at : List ℕ → ℕ → State
  at m x = state m (x ∷ []) typed drawn output

  h1 : Holds p.world.layout m1 c1
  h1 = let room = has.mapped.room in (puts p (at memory n) cells 30 (49152 + heap) h (omega arith) (omega arith) (omega arith) (omega arith)).holds

  -- up to the test
  charges_by : (o : _) (s' : State) (k : ℕ) → Runs p f w CHARGE_ACTS (drop 2 CHARGE_ACTS) (at m1 (n + heap)) o s' k → Runs p f w CHARGE_ACTS CHARGE_ACTS (at memory n) o s' (suc (suc k))
  charges_by o s' k rest =
      let room = has.mapped.room in
      let put = puts p (at memory n) cells 30 (49152 + heap) h (omega arith) (omega arith) (omega arith) (omega arith) in
      done (computes p (at memory n) (at m1 n) 30 functions.Add (atoms.Var 19) (atoms.Num 49152) heap 49152 (49152 + heap) (register p (at memory n) cells 19 h (omega arith) (omega arith) (omega arith)) refl (adds p memory heap 49152 (49152 + heap) (omega arith) (omega arith)) put.put_is)
      (done (computes p (at m1 n) (at m1 (n + heap)) 1 functions.Add (atoms.Var 1) (atoms.Var 19) n heap (n + heap) (local_1 p m1 n [] typed drawn output) (register p (at m1 n) c1 19 h1 (omega arith) (omega arith) (omega arith)) (adds p m1 n heap (n + heap) refl (omega arith)) (put_1 p m1 n (n + heap) [] typed drawn output))
      rest)

  takes : heap + n ≤ 10000 → Charged p f w memory typed output drawn n cells
  takes fits =
      let room = has.mapped.room in
      let put = puts p (at m1 (n + heap)) c1 19 (n + heap) h1 (omega arith) (omega arith) (omega arith) (omega arith) in
      let m2 = with_cell m1 3 (n + heap) in
      let c2 = replaced c1 3 (n + heap) in
      record {
        memory' = m2;
        cells' = c2;
        locals' = (n + heap) ∷ [];
        holds = put.holds;
        heap = same_cell c1 3 (n + heap) ∙ omega arith;
        term = other_cell c1 3 (n + heap) 14 (λ e. (omega arith)) ∙ same_cell cells 14 (49152 + heap);
        others = λ k no3 no14. other_cell c1 3 (n + heap) k no3 ∙ other_cell cells 14 (49152 + heap) k no14;
        runs = charges_by (Returns 0) (at m2 (n + heap)) 3
            (passed (tested p (at m1 (n + heap)) comparisons.Greater (atoms.Var 1) (atoms.Num 10000) true (n + heap) 10000 false (local_1 p m1 (n + heap) [] typed drawn output) refl (not_more_by (n + heap) 10000 (omega arith) (omega arith) (omega arith)))
            (done (copies p (at m1 (n + heap)) (at m2 (n + heap)) 19 (atoms.Var 1) (n + heap) (local_1 p m1 (n + heap) [] typed drawn output) put.put_is)
            (returns refl)));
      }

  meets : 2 ≤ f → 10000 < heap + n → MeetsLimit p f w CHARGE_ACTS memory (n ∷ []) typed output drawn cells 4
  unfolding behind_label
  meets two full =
      let q = quits_full p has f w two CHARGE_ACTS (acts.Quit ∷ []) m1 ((n + heap) ∷ []) typed output drawn (cells last_reg) c1 h1 (other_cell cells 14 (49152 + heap) 28 (λ e. (omega arith))) in
      let cheap = q.few in
      record {
        memory' = m1;
        count = suc (suc (suc (suc q.count)));
        runs = charges_by (Stops AtQuit) (state m1 [] typed drawn (output ++ closing (cells last_reg) HeapLimit)) (suc (suc q.count))
            (taken (tested p (at m1 (n + heap)) comparisons.Greater (atoms.Var 1) (atoms.Num 10000) true (n + heap) 10000 true (local_1 p m1 (n + heap) [] typed drawn output) refl (more_by (n + heap) 10000 (omega arith) (omega arith) (omega arith))) refl q.runs);
        few = omega arith;
      }

pub charge_works : ChargeWorks
charge_works = record {
  takes = λ p has f w memory typed output drawn n cells h fits. takes p has f w memory typed output drawn n cells h (omega arith) (omega arith) fits;
  meets = λ p has f w two memory typed output drawn n cells h low few full. meets p has f w memory typed output drawn n cells h low few two full;
}
