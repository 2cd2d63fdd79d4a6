-- The key of a value.
use Rattle.std.proofs.Common.{◌≡◌, ℕ, suc, ◌+◌, ◌<◌, ◌≤◌, true, false, List, [], ◌∷◌, drop, length, Some, refl, ap, ◌∙◌, arith}
use Rattle.std.proofs.lemmas.Bool.{ne_eqb}
use Rattle.dg_meaning.specs.Values.{Value, Var, Node}
use Rattle.dg_meaning.specs.Substitutions.{Substitution, walk}
use Rattle.z_lang.specs.declared.act.Atom.TheVariants as atoms
use Rattle.z_lang.specs.declared.act.Comparison.TheVariants as comparisons
use Rattle.z_lang.specs.declared.act.Function.TheVariants as functions
use Rattle.z_lang.specs.State.{State, Program}
use Rattle.z_lang.specs.Acts.{computed}
use Rattle.z_lang.specs.Runs.{ActsRun as Runs, ActsOutcome, Returns, done, taken, passed, calls, returns, behind_label}
use Rattle.dg_rt.specs.Cells.{Holds}
use Rattle.dg_rt.specs.Areas.{heap_at, IsMapped, state}
use Rattle.dg_rt.specs.Shapes.{Shape, IsShape, Shows, number, dict, object, nil, variable, boxed, Filled, pair_in, closure_in, word_in, Cell, Stands}
use Rattle.dg_rt.specs.RunTime.{HasRunTime}
use Rattle.dg_rt.specs.inside.Walks.{ending}
use Rattle.dg_rt.proofs.Cells.{reads_cell}
use Rattle.dg_rt.proofs.Showing.{letters_low}
use Rattle.dg_rt.proofs.Following.{word, tested, computes}
use Rattle.dg_rt.proofs.Locals.{get_1, get_2, set_1, set_2, added, reference, simple_no_reference, boxed_no_reference, simple_is_positive, boxed_is_negative, high_is_negative}
use Rattle.dg_rt.proofs.Walking.{walk_works}
use Rattle.dg_rt.specs.declared.rules.TheConstants.{KEY_OF_ACTS}
use Rattle.dg_rt.proofs.Standing.{walk_at}
use Rattle.dg_rt.specs.Rules.{KeyIs, Keyed, KeyWorks}

ending_few : (v : Value) → ending v ≤ 4
ending_few (Var n) = omega arith
ending_few (Node f vs) = omega arith

module _ (p : Program) (f w : ℕ) (memory typed output : List ℕ) (drawn : ℕ) (map : IsMapped p) (sh : Shape) (is : IsShape sh) (cells : ℕ → ℕ) (h : Holds p.world.layout memory cells) (S : Substitution) (st : Stands sh cells S) where
  abbrev now : ℕ → State
  now x = state memory (x ∷ 0 ∷ 0 ∷ 0 ∷ []) typed drawn output

  abbrev two : ℕ → ℕ → State
  two x y = state memory (x ∷ y ∷ 0 ∷ 0 ∷ []) typed drawn output

  -- by the word of a value that is looked up
  record Answered (x : ℕ) (v : Value) : Type 0 where
    key : ℕ
    is_key : KeyIs v key
    small : key < 65536
    locals' : List ℕ
    count : ℕ
    few : count ≤ 7
    runs : Runs p f w KEY_OF_ACTS (drop 1 KEY_OF_ACTS) (now x) (Returns key) (state memory locals' typed drawn output) count

  simple : (x : ℕ) (v : Value) → x < 32768 → KeyIs v x → Answered x v
  simple x v low k = record {
    key = x;
    is_key = k;
    small = omega arith;
    locals' = x ∷ 0 ∷ 0 ∷ 0 ∷ [];
    count = 3;
    few = omega arith;
    runs = passed (tested p (now x) comparisons.Less (atoms.Var 1) (atoms.Num 49152) true x 49152 false (get_1 p memory x 0 0 0 typed drawn output) refl (simple_no_reference x low))
        (passed (tested p (now x) comparisons.Less (atoms.Var 1) (atoms.Num 0) true x 0 false (get_1 p memory x 0 0 0 typed drawn output) refl (simple_is_positive x low)) (returns (get_1 p memory x 0 0 0 typed drawn output)));
  }

  -- up to the tests of a box's header
  to_header : (k header : ℕ) → k + 2 < 10000 → Cell sh k header → (o : ActsOutcome) (s' : State) (n : ℕ) → Runs p f w KEY_OF_ACTS (drop 8 KEY_OF_ACTS) (two (49152 + k) header) o s' n → Runs p f w KEY_OF_ACTS (drop 1 KEY_OF_ACTS) (now (49152 + k)) o s' (suc (suc (suc n)))
  unfolding behind_label
  to_header k header lt cell o s' n rest =
      let y = 49152 + k in
      let room = map.room in
      let read : computed p.world.layout memory functions.Word 33438 y ≡ Some header = reads_cell p.world.layout memory cells 33438 y (heap_at + k) h (omega arith) (omega arith) ∙ ap word (st.fixed k (omega arith) cell.fixed ∙ cell.is) in
      passed (tested p (now y) comparisons.Less (atoms.Var 1) (atoms.Num 49152) true y 49152 false (get_1 p memory y 0 0 0 typed drawn output) refl (boxed_no_reference k (omega arith)))
      (taken (tested p (now y) comparisons.Less (atoms.Var 1) (atoms.Num 0) true y 0 true (get_1 p memory y 0 0 0 typed drawn output) refl (boxed_is_negative k (omega arith))) refl
      (done (computes p (now y) (two y header) 2 functions.Word (atoms.Num 33438) (atoms.Var 1) 33438 y header refl (get_1 p memory y 0 0 0 typed drawn output) read (set_2 p memory y 0 0 0 header typed drawn output)) rest))

  by_inside : (k header : ℕ) (v : Value) → k + 2 < 10000 → Cell sh k header → Filled sh k header v → Answered (49152 + k) v
  unfolding behind_label
  by_inside k header v lt cell (pair_in _ a b one two' head tail) =
      let y = 49152 + k in
      record {
        key = 28673;
        is_key = (refl, tt);
        small = omega arith;
        locals' = y ∷ 0 ∷ 0 ∷ 0 ∷ [];
        count = 5;
        few = omega arith;
        runs = to_header k 0 lt cell (Returns 28673) (two y 0) 2
            (taken (tested p (two y 0) comparisons.Equal (atoms.Var 2) (atoms.Num 0) true 0 0 true (get_2 p memory y 0 0 0 typed drawn output) refl refl) refl (returns refl));
      }
  by_inside k header v lt cell (closure_in _ place small told few count all) =
      let y = 49152 + k in
      let top = 1 + place in
      let key = 49152 + place in
      record {
        key = key;
        is_key = (refl, small);
        small = omega arith;
        locals' = y ∷ key ∷ 0 ∷ 0 ∷ [];
        count = 7;
        few = omega arith;
        runs = to_header k top lt cell (Returns key) (two y key) 4
            (passed (tested p (two y top) comparisons.Equal (atoms.Var 2) (atoms.Num 0) true top 0 false (get_2 p memory y top 0 0 typed drawn output) refl (ne_eqb top 0 (λ (e : top ≡ 0). (omega arith))))
            (passed (tested p (two y top) comparisons.Less (atoms.Var 2) (atoms.Num 0) true top 0 false (get_2 p memory y top 0 0 typed drawn output) refl (simple_is_positive top (omega arith)))
            (done (computes p (two y top) (two y key) 2 functions.Add (atoms.Var 2) (atoms.Num 49151) top 49151 key (get_2 p memory y top 0 0 typed drawn output) refl (added p memory top 49151 key (omega arith)) (set_2 p memory y top 0 0 key typed drawn output))
            (returns (get_2 p memory y key 0 0 typed drawn output)))));
      }
  by_inside k header v lt cell (word_in {letters = xs} _ fine all) =
      let y = 49152 + k in
      let top = 32768 + length xs in
      let low = letters_low is (k + 3) xs (omega arith) all in
      record {
        key = 28674;
        is_key = (refl, tt);
        small = omega arith;
        locals' = y ∷ top ∷ 0 ∷ 0 ∷ [];
        count = 6;
        few = omega arith;
        runs = to_header k top lt cell (Returns 28674) (two y top) 3
            (passed (tested p (two y top) comparisons.Equal (atoms.Var 2) (atoms.Num 0) true top 0 false (get_2 p memory y top 0 0 typed drawn output) refl (ne_eqb top 0 (λ (e : top ≡ 0). (omega arith))))
            (taken (tested p (two y top) comparisons.Less (atoms.Var 2) (atoms.Num 0) true top 0 true (get_2 p memory y top 0 0 typed drawn output) refl (high_is_negative (length xs) (omega arith))) refl (returns refl)));
      }

  answered : (x : ℕ) (v : Value) → Shows sh x v → Answered x v
  unfolding behind_label
  answered x v (number n lt) = simple n _ (omega arith) (refl, lt)
  answered x v (dict n lt) = simple (16384 + n) _ (omega arith) (refl, lt)
  answered x v (object n lt) = simple (24576 + n) _ (omega arith) (refl, lt)
  answered x v nil = simple 28672 _ (omega arith) (refl, tt)
  answered x v (variable n lt) =
      let y = 32768 + sh.place n in
      let low = is.within n lt in
      record {
        key = 32768;
        is_key = refl;
        small = omega arith;
        locals' = y ∷ 0 ∷ 0 ∷ 0 ∷ [];
        count = 2;
        few = omega arith;
        runs = taken (tested p (now y) comparisons.Less (atoms.Var 1) (atoms.Num 49152) true y 49152 true (get_1 p memory y 0 0 0 typed drawn output) refl (reference (sh.place n) (omega arith))) refl (returns refl);
      }
  answered x v (boxed k header lt box cell inside) = by_inside k header v lt cell inside

  keyed : HasRunTime p → 1 ≤ f → 4 ≤ w → (x : ℕ) (v : Value) → Shows sh x v → Keyed p f w memory typed output drawn x S v
  keyed has some enough x v s =
      let r = walk_works p has sh is 0 0 memory typed output drawn 0 0 cells h S st x 0 v s in
      let a = answered r.word (walk S v) r.shows in
      let few = r.few in
      let few' = a.few in
      let last = ending_few (walk S v) in
      record {
        key = a.key;
        is = a.is_key;
        small = a.small;
        locals' = a.locals';
        count = suc r.count + a.count;
        few = omega arith;
        runs = calls {f' = 0} {w' = 0} {n = r.count} {n' = a.count} {xs = (x, 0, 0)} {s1 = state memory r.locals' typed drawn output} {s2 = now r.word} refl (rw (get_1 p memory x 0 0 0 typed drawn output) refl) (walk_at p has) (omega arith) (omega arith) r.runs (set_1 p memory x 0 0 0 r.word typed drawn output) a.runs;
      }

pub key_works : KeyWorks
key_works p has f w some enough memory typed output drawn sh is cells h S st x v s = keyed p f w memory typed output drawn has.mapped sh is cells h S st has some enough x v s
