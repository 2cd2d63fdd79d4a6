-- The routine that tries an object does so.
use Rattle.std.proofs.Common.{◌≡◌, ◌≢◌, ℕ, suc, ◌+◌, ◌-◌, ◌<◌, ◌≤◌, true, false, List, [], ◌∷◌, ◌++◌, drop, Some, refl, ap, ◌∙◌, subst, arith}
use Rattle.dg_base.specs.declared.run.Ending.TheVariants.{HeapLimit}
use Rattle.z_model.specs.declared.end.Halt.TheVariants.{AtQuit}
use Rattle.z_lang.specs.declared.act.Atom.TheVariants as atoms
use Rattle.z_lang.specs.declared.act.Comparison.TheVariants as comparisons
use Rattle.z_lang.specs.declared.act.Function.TheVariants as functions
use Rattle.z_lang.specs.State.{State, Program, value}
use Rattle.z_lang.specs.Runs.{ActsRun as Runs, ActsOutcome as Outcome, Returns, Stops, at_label, taken, passed, done, calls, calls_last, returns, behind_label}
use Rattle.dg_rt.specs.declared.numbers.TheConstants.{FOUND}
use Rattle.dg_rt.specs.declared.rules.TheConstants.{FOUND_ACTS}
use Rattle.dg_rt.specs.declared.tries.TheConstants.{TRY_ACTS}
use Rattle.dg_rt.specs.Cells.{with_cell, replaced, Holds}
use Rattle.dg_rt.specs.Areas.{heap_at, last_reg, state}
use Rattle.dg_rt.specs.Back.{at_place}
use Rattle.dg_rt.specs.RunTime.{routine_of, HasRunTime}
use Rattle.dg_rt.specs.Closings.{closing}
use Rattle.dg_rt.specs.Charges.{MeetsLimit}
use Rattle.dg_rt.specs.Frames.{RowIs}
use Rattle.dg_rt.specs.Tries.{TriesLast, TriesFurther, TryWorks}
use Rattle.dg_rt.proofs.Cells.{other_cell, same_cell}
use Rattle.dg_rt.proofs.Finding.{found_works}
use Rattle.dg_rt.proofs.Following.{word, tested, computes, copies, register, IsPut, puts, local_1, local_2, put_2}
use Rattle.dg_rt.proofs.Locals.{adds, less_by, not_less_by}
use Rattle.dg_rt.proofs.Rows.{row_same}

found_at : (p : Program) → HasRunTime p → p.routine_at (p.names.routine FOUND) ≡ Some (routine_of 4 FOUND_ACTS)
found_at p has = has.each 24 (routine_of 4 FOUND_ACTS) refl

module _ (p : Program) (has : HasRunTime p) (f w : ℕ) (memory typed output : List ℕ) (drawn objects arguments : ℕ) (c : ℕ → ℕ) (top : ℕ) (h : Holds p.world.layout memory c) (heap_is : c 3 ≡ top) (low : top ≤ 10000) (few : objects ≤ 4096) (short : arguments ≤ 12) where
  abbrev st : List ℕ → ℕ → State
  st m b = state m (objects ∷ b ∷ []) typed drawn output

  reg : (m : List ℕ) (b : ℕ) (c' : ℕ → ℕ) (v : ℕ) → Holds p.world.layout m c' → 16 ≤ v → v < 240 → value p (st m b) (atoms.Var v) ≡ word (c' (v - 16))
  reg m b c' v hh le lt = let room = has.mapped.room in register p (st m b) c' v hh le lt (omega arith)

  putting : (m : List ℕ) (b : ℕ) (c' : ℕ → ℕ) (v x : ℕ) → Holds p.world.layout m c' → 16 ≤ v → v < 240 → x < 65536 → IsPut p (st m b) c' v x
  putting m b c' v x hh le lt small = let room = has.mapped.room in puts p (st m b) c' v x hh (omega arith) le lt small

  abbrev o : ℕ
  o = c 11

  abbrev w0 : ℕ
  w0 = at_place top

  abbrev m1 : List ℕ
  m1 = with_cell memory 9 w0

  abbrev c1 : ℕ → ℕ
  c1 = replaced c 9 w0

  abbrev m2 : List ℕ
  m2 = with_cell m1 37 arguments

  abbrev c2 : ℕ → ℕ
  c2 = replaced c1 37 arguments

  abbrev m3 : List ℕ
  m3 = with_cell m2 11 (suc o)

  abbrev c3 : ℕ → ℕ
  c3 = replaced c2 11 (suc o)

  module _ (below : suc o ≤ objects) where
    put1 : IsPut p (st memory arguments) c 25 w0
    put1 = putting memory arguments c 25 w0 h (omega arith) (omega arith) (omega arith)

    put2 : IsPut p (st m1 arguments) c1 53 arguments
    put2 = putting m1 arguments c1 53 arguments put1.holds (omega arith) (omega arith) (omega arith)

    key2 : c2 11 ≡ o
    key2 = other_cell c1 37 arguments 11 (λ e. (omega arith)) ∙ other_cell c 9 w0 11 (λ e. (omega arith))

    put3 : IsPut p (st m2 o) c2 27 (suc o)
    put3 = putting m2 o c2 27 (suc o) put2.holds (omega arith) (omega arith) (omega arith)

    others3 : (k : ℕ) → k ≢ 9 → k ≢ 11 → k ≢ 37 → c3 k ≡ c k
    others3 k n9 n11 n37 = other_cell c2 11 (suc o) k n11 ∙ other_cell c1 37 arguments k n37 ∙ other_cell c 9 w0 k n9

    -- up to the test
    to_test : (r : Outcome) (s' : State) (k : ℕ) → Runs p f w TRY_ACTS (drop 4 TRY_ACTS) (st m3 o) r s' k → Runs p f w TRY_ACTS TRY_ACTS (st memory arguments) r s' (suc (suc (suc (suc k))))
    to_test r s' k rest =
        let sum : o + 1 ≡ suc o = omega arith in
        done (computes p (st memory arguments) (st m1 arguments) 25 functions.Add (atoms.Var 19) (atoms.Num 32768) top 32768 w0 (reg memory arguments c 19 h (omega arith) (omega arith) ∙ ap word heap_is) refl (adds p memory top 32768 w0 (omega arith) (omega arith)) put1.put_is)
        (done (copies p (st m1 arguments) (st m2 arguments) 53 (atoms.Var 2) arguments (local_2 p m1 objects arguments [] typed drawn output) put2.put_is)
        (done (copies p (st m2 arguments) (st m2 o) 2 (atoms.Var 27) o (reg m2 arguments c2 27 put2.holds (omega arith) (omega arith) ∙ ap word key2) (put_2 p m2 objects arguments o [] typed drawn output))
        (done (computes p (st m2 o) (st m3 o) 27 functions.Add (atoms.Var 27) (atoms.Num 1) o 1 (suc o) (reg m2 o c2 27 put2.holds (omega arith) (omega arith) ∙ ap word key2) refl (adds p m2 o 1 (suc o) sum (omega arith)) put3.put_is)
        rest)))

    -- behind the choice
    record Ended (m : List ℕ) (c' : ℕ → ℕ) : Type 0 where
      memory' : List ℕ
      cells' : ℕ → ℕ
      holds : Holds p.world.layout memory' cells'
      key : cells' 11 ≡ o
      clash : cells' 13 ≡ 0
      others : (k : ℕ) → k ≢ 11 → k ≢ 13 → cells' k ≡ c' k
      runs : Runs p f w TRY_ACTS (drop 9 TRY_ACTS) (st m o) (Returns (24576 + o)) (st memory' (24576 + o)) 4

    ended : (m : List ℕ) (c' : ℕ → ℕ) → Holds p.world.layout m c' → Ended m c'
    ended m c' hh =
        let a = putting m o c' 27 o hh (omega arith) (omega arith) (omega arith) in
        let ma = with_cell m 11 o in
        let ca = replaced c' 11 o in
        let b = putting ma o ca 29 0 a.holds (omega arith) (omega arith) (omega arith) in
        let mb = with_cell ma 13 0 in
        let sum : o + 24576 ≡ 24576 + o = omega arith in
        record {
          memory' = mb;
          cells' = replaced ca 13 0;
          holds = b.holds;
          key = other_cell ca 13 0 11 (λ e. (omega arith)) ∙ same_cell c' 11 o;
          clash = same_cell ca 13 0;
          others = λ k n11 n13. other_cell ca 13 0 k n13 ∙ other_cell c' 11 o k n11;
          runs = done (copies p (st m o) (st ma o) 27 (atoms.Var 2) o (local_2 p m objects o [] typed drawn output) a.put_is)
              (done (copies p (st ma o) (st mb o) 29 (atoms.Num 0) 0 refl b.put_is)
              (done (computes p (st mb o) (st mb (24576 + o)) 2 functions.Add (atoms.Var 2) (atoms.Num 24576) o 24576 (24576 + o) (local_2 p mb objects o [] typed drawn output) refl (adds p mb o 24576 (24576 + o) sum (omega arith)) (put_2 p mb objects o (24576 + o) [] typed drawn output))
              (returns (local_2 p mb objects (24576 + o) [] typed drawn output))));
        }

    key3 : c3 11 ≡ suc o
    key3 = same_cell c2 11 (suc o)

    cut3 : c3 9 ≡ w0
    cut3 = other_cell c2 11 (suc o) 9 (λ e. (omega arith)) ∙ other_cell c1 37 arguments 9 (λ e. (omega arith)) ∙ same_cell c 9 w0

    last : suc o ≡ objects → TriesLast p f w memory typed output drawn objects arguments c top
    unfolding behind_label
    last is =
        let e = ended m3 c3 put3.holds in
        record {
          memory' = e.memory';
          cells' = e.cells';
          locals' = objects ∷ (24576 + o) ∷ [];
          holds = e.holds;
          cut = e.others 9 (λ q. (omega arith)) (λ q. (omega arith)) ∙ cut3;
          key = e.key;
          clash = e.clash;
          others = λ k n9 n11 n13 n37. e.others k n11 n13 ∙ others3 k n9 n11 n37;
          runs = to_test (Returns (24576 + o)) (st e.memory' (24576 + o)) 5
              (taken (tested p (st m3 o) comparisons.Less (atoms.Var 27) (atoms.Var 1) false (suc o) objects false (reg m3 o c3 27 put3.holds (omega arith) (omega arith) ∙ ap word key3) (local_1 p m3 objects (o ∷ []) typed drawn output) (not_less_by (suc o) objects (omega arith) (omega arith) (omega arith))) refl e.runs);
        }

    -- where others follow
    abbrev m4 : List ℕ
    m4 = with_cell m3 12 1

    abbrev c4 : ℕ → ℕ
    c4 = replaced c3 12 1

    abbrev m5 : List ℕ
    m5 = with_cell m4 10 65535

    abbrev c5 : ℕ → ℕ
    c5 = replaced c4 10 65535

    put4 : IsPut p (st m3 o) c3 28 1
    put4 = putting m3 o c3 28 1 put3.holds (omega arith) (omega arith) (omega arith)

    put5 : IsPut p (st m4 o) c4 26 65535
    put5 = putting m4 o c4 26 65535 put4.holds (omega arith) (omega arith) (omega arith)

    others5 : (k : ℕ) → k ≢ 9 → k ≢ 10 → k ≢ 11 → k ≢ 12 → k ≢ 37 → c5 k ≡ c k
    others5 k n9 n10 n11 n12 n37 = other_cell c4 10 65535 k n10 ∙ other_cell c3 12 1 k n12 ∙ others3 k n9 n11 n37

    begin5 : c5 12 ≡ 1
    begin5 = other_cell c4 10 65535 12 (λ e. (omega arith)) ∙ same_cell c3 12 1

    some5 : c5 12 ≢ 0
    some5 e = let q = begin5 in omega arith

    heap5 : c5 3 ≡ top
    heap5 = others5 3 (λ e. (omega arith)) (λ e. (omega arith)) (λ e. (omega arith)) (λ e. (omega arith)) (λ e. (omega arith)) ∙ heap_is

    count5 : c5 37 ≡ arguments
    count5 = other_cell c4 10 65535 37 (λ e. (omega arith)) ∙ other_cell c3 12 1 37 (λ e. (omega arith)) ∙ other_cell c2 11 (suc o) 37 (λ e. (omega arith)) ∙ same_cell c1 37 arguments

    many5 : c5 10 ≡ 65535
    many5 = same_cell c4 10 65535

    key5 : c5 11 ≡ suc o
    key5 = other_cell c4 10 65535 11 (λ e. (omega arith)) ∙ other_cell c3 12 1 11 (λ e. (omega arith)) ∙ key3

    cut5 : c5 9 ≡ w0
    cut5 = other_cell c4 10 65535 9 (λ e. (omega arith)) ∙ other_cell c3 12 1 9 (λ e. (omega arith)) ∙ cut3

    same5 : (k : ℕ) → k ≤ 8 → c5 k ≡ c k
    same5 k le = others5 k (λ e. (omega arith)) (λ e. (omega arith)) (λ e. (omega arith)) (λ e. (omega arith)) (λ e. (omega arith))

    args5 : (k : ℕ) → 12 < k → k < 37 → c5 k ≡ c k
    args5 k lt lt' = others5 k (λ e. (omega arith)) (λ e. (omega arith)) (λ e. (omega arith)) (λ e. (omega arith)) (λ e. (omega arith))

    -- up to the call
    to_call : suc o < objects → (r : Outcome) (s' : State) (k : ℕ) → Runs p f w TRY_ACTS (drop 7 TRY_ACTS) (st m5 o) r s' k → Runs p f w TRY_ACTS TRY_ACTS (st memory arguments) r s' (suc (suc (suc (suc (suc (suc (suc k)))))))
    to_call lt r s' k rest =
        to_test r s' (suc (suc (suc k)))
        (passed (tested p (st m3 o) comparisons.Less (atoms.Var 27) (atoms.Var 1) false (suc o) objects true (reg m3 o c3 27 put3.holds (omega arith) (omega arith) ∙ ap word key3) (local_1 p m3 objects (o ∷ []) typed drawn output) (less_by (suc o) objects (omega arith) (omega arith) lt))
        (done (copies p (st m3 o) (st m4 o) 28 (atoms.Num 1) 1 refl put4.put_is)
        (done (copies p (st m4 o) (st m5 o) 26 (atoms.Num 65535) 65535 refl put5.put_is)
        rest)))

    further : 1 ≤ f → 4 ≤ w → suc o < objects → top + 10 + arguments ≤ 10000 → TriesFurther p f w memory typed output drawn objects arguments c top
    further some enough lt room =
        let self = c5 0 in
        let k = found_works.opens p has 0 0 m5 typed output drawn 0 self 0 c5 top put5.holds some5 heap5 (rw count5 room) (put5.holds.words 0) in
        let e = ended k.memory' k.cells' k.holds in
        let row = k.row in
        let words : RowIs k.cells' (top + 0) (c 5 ∷ c 0 ∷ c 4 ∷ c 6 ∷ c 7 ∷ c 1 ∷ c 29 ∷ c 8 ∷ 65535 ∷ suc o ∷ c 16 ∷ c 17 ∷ c 18 ∷ c 19 ∷ c 20 ∷ c 21 ∷ c 22 ∷ c 23 ∷ c 24 ∷ c 25 ∷ c 26 ∷ c 27 ∷ []) =
        (row.0 ∙ same5 5 (omega arith), (row.1.0 ∙ same5 0 (omega arith), (row.1.1.0 ∙ same5 4 (omega arith), (row.1.1.1.0 ∙ same5 6 (omega arith), (row.1.1.1.1.0 ∙ same5 7 (omega arith), (row.1.1.1.1.1.0 ∙ same5 1 (omega arith), (row.1.1.1.1.1.1.0 ∙ args5 29 (omega arith) (omega arith), (row.1.1.1.1.1.1.1.0 ∙ same5 8 (omega arith), (row.1.1.1.1.1.1.1.1.0 ∙ many5, (row.1.1.1.1.1.1.1.1.1.0 ∙ key5, (row.1.1.1.1.1.1.1.1.1.1.0 ∙ args5 16 (omega arith) (omega arith), (row.1.1.1.1.1.1.1.1.1.1.1.0 ∙ args5 17 (omega arith) (omega arith), (row.1.1.1.1.1.1.1.1.1.1.1.1.0 ∙ args5 18 (omega arith) (omega arith), (row.1.1.1.1.1.1.1.1.1.1.1.1.1.0 ∙ args5 19 (omega arith) (omega arith), (row.1.1.1.1.1.1.1.1.1.1.1.1.1.1.0 ∙ args5 20 (omega arith) (omega arith), (row.1.1.1.1.1.1.1.1.1.1.1.1.1.1.1.0 ∙ args5 21 (omega arith) (omega arith), (row.1.1.1.1.1.1.1.1.1.1.1.1.1.1.1.1.0 ∙ args5 22 (omega arith) (omega arith), (row.1.1.1.1.1.1.1.1.1.1.1.1.1.1.1.1.1.0 ∙ args5 23 (omega arith) (omega arith), (row.1.1.1.1.1.1.1.1.1.1.1.1.1.1.1.1.1.1.0 ∙ args5 24 (omega arith) (omega arith), (row.1.1.1.1.1.1.1.1.1.1.1.1.1.1.1.1.1.1.1.0 ∙ args5 25 (omega arith) (omega arith), (row.1.1.1.1.1.1.1.1.1.1.1.1.1.1.1.1.1.1.1.1.0 ∙ args5 26 (omega arith) (omega arith), (row.1.1.1.1.1.1.1.1.1.1.1.1.1.1.1.1.1.1.1.1.1.0 ∙ args5 27 (omega arith) (omega arith), tt)))))))))))))))))))))) in
        let kept : (j : ℕ) → j ≢ 3 → j ≢ 5 → j ≢ 2 → (heap_at + top ≤ j → heap_at + (top + 22) ≤ j) → k.cells' j ≡ c5 j = λ j n3 n5 n2 far. k.others j n3 n5 n2 far in
        let low9 : k.cells' 9 ≡ w0 = kept 9 (λ q. (omega arith)) (λ q. (omega arith)) (λ q. (omega arith)) (λ q. (omega arith)) ∙ cut5 in
        record {
          memory' = e.memory';
          cells' = e.cells';
          locals' = objects ∷ (24576 + o) ∷ [];
          holds = e.holds;
          heap = e.others 3 (λ q. (omega arith)) (λ q. (omega arith)) ∙ k.heap ∙ ap (λ (n : ℕ). top + 10 + n) count5;
          choice = e.others 5 (λ q. (omega arith)) (λ q. (omega arith)) ∙ k.choice;
          mark = e.others 2 (λ q. (omega arith)) (λ q. (omega arith)) ∙ k.mark;
          row = row_same k.cells' e.cells' (top + 0) (c 5 ∷ c 0 ∷ c 4 ∷ c 6 ∷ c 7 ∷ c 1 ∷ c 29 ∷ c 8 ∷ 65535 ∷ suc o ∷ c 16 ∷ c 17 ∷ c 18 ∷ c 19 ∷ c 20 ∷ c 21 ∷ c 22 ∷ c 23 ∷ c 24 ∷ c 25 ∷ c 26 ∷ c 27 ∷ []) (λ j le. e.others (heap_at + j) (λ q. (omega arith)) (λ q. (omega arith))) words;
          cut = e.others 9 (λ q. (omega arith)) (λ q. (omega arith)) ∙ low9;
          key = e.key;
          clash = e.clash;
          others = λ j n3 n5 n2 n9 n10 n11 n12 n13 n37 far. e.others j n11 n13 ∙ kept j n3 n5 n2 far ∙ others5 j n9 n10 n11 n12 n37;
          runs = to_call lt (Returns (24576 + o)) (st e.memory' (24576 + o)) 37
              (calls {f' = 0} {w' = 0} {n = 32} {n' = 4} {xs = (0, self, 0)} {s1 = state k.memory' k.locals' typed drawn output} {s2 = st k.memory' o} refl (rw (reg m5 o c5 16 put5.holds (omega arith) (omega arith)) refl) (found_at p has) (omega arith) (omega arith) k.runs refl (at_label e.runs));
        }

    meets : 3 ≤ f → 4 ≤ w → suc o < objects → 10000 < top + 10 + arguments → MeetsLimit p f w TRY_ACTS memory (objects ∷ arguments ∷ []) typed output drawn c 13
    meets some enough lt over =
        let self = c5 0 in
        let q = found_works.meets p has 2 0 (omega arith) m5 typed output drawn 0 self 0 c5 top put5.holds some5 heap5 low (rw count5 short) (rw count5 over) in
        let few' = q.few in
        let last : c5 28 ≡ c 28 = args5 28 (omega arith) (omega arith) in
        record {
          memory' = q.memory';
          count = suc (suc (suc (suc (suc (suc (suc (suc q.count)))))));
          runs = subst (λ (i : ℕ). Runs p f w TRY_ACTS TRY_ACTS (st memory arguments) (Stops AtQuit) (state q.memory' [] typed drawn (output ++ closing i HeapLimit)) (suc (suc (suc (suc (suc (suc (suc (suc q.count))))))))) last
              (to_call lt (Stops AtQuit) (state q.memory' [] typed drawn (output ++ closing (c5 last_reg) HeapLimit)) (suc q.count)
              (calls_last {f' = 2} {w' = 0} {n = q.count} {xs = (0, self, 0)} refl (rw (reg m5 o c5 16 put5.holds (omega arith) (omega arith)) refl) (found_at p has) (omega arith) (omega arith) q.runs));
          few = omega arith;
        }

pub try_works : TryWorks
try_works = record {
  last = λ p has f w memory typed output drawn objects arguments c top h heap_is low few short is. last p has f w memory typed output drawn objects arguments c top h heap_is low few short (omega arith) is;
  further = λ p has f w some enough memory typed output drawn objects arguments c top h heap_is few short lt room. further p has f w memory typed output drawn objects arguments c top h heap_is (omega arith) few short (omega arith) some enough lt room;
  meets = λ p has f w some enough memory typed output drawn objects arguments c top h heap_is low few short lt over. meets p has f w memory typed output drawn objects arguments c top h heap_is low few short (omega arith) some enough lt over;
}
