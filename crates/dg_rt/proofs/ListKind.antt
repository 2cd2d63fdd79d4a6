-- The routine that says what of a list a value is does so.
use Rattle.std.proofs.Common.{◌≡◌, ℕ, suc, ◌+◌, ◌<◌, ◌≤◌, Bool, true, false, List, [], ◌∷◌, drop, length, Some, refl, ap, ◌∙◌, arith}
use Rattle.std.specs.Prelude.{◌==◌}
use Rattle.std.proofs.lemmas.Bool.{ne_eqb}
use Rattle.z_lang.specs.declared.act.Atom.TheVariants as atoms
use Rattle.z_lang.specs.declared.act.Comparison.TheVariants as comparisons
use Rattle.z_lang.specs.declared.act.Function.TheVariants as functions
use Rattle.z_lang.specs.State.{State, Program}
use Rattle.z_lang.specs.Acts.{answer_of}
use Rattle.z_lang.specs.Runs.{ActsRun as Runs, ActsOutcome as Outcome, Returns, at_label, taken, passed, done, returns, behind_label}
use Rattle.dg_meaning.specs.Values.{Nil, Pair, Value, Node}
use Rattle.dg_meaning.specs.Substitutions.{Substitution}
use Rattle.dg_rt.specs.declared.printing.TheConstants.{LIST_KIND_ACTS}
use Rattle.dg_rt.specs.Cells.{compared, Holds}
use Rattle.dg_rt.specs.Areas.{heap_at, state, IsMapped}
use Rattle.dg_rt.specs.Shapes.{Shape, IsShape, Cell, Shows, number, dict, object, nil, variable, boxed, pair_in, closure_in, word_in, Stands}
use Rattle.dg_rt.proofs.Cells.{reads_cell}
use Rattle.dg_rt.proofs.Following.{word, tested, computes, local_1, put_1}
use Rattle.dg_rt.proofs.Locals.{simple_is_positive, boxed_is_negative, reference_is_negative, reference, boxed_no_reference}

-- What of a list a value is: 2 a pair, 1 the empty list, 0 no list.
abbrev pub list_kind : Value → ℕ
list_kind (Node Nil vs) = 1
list_kind (Node Pair vs) = 2
list_kind v = 0

-- It is answered, and nothing is changed.
pub record Kind (p : Program) (f w : ℕ) (memory typed output : List ℕ) (drawn x answer : ℕ) : Type 0 where
  pub locals' : List ℕ
  pub count : ℕ
  pub few : count ≤ 6
  pub runs : Runs p f w LIST_KIND_ACTS LIST_KIND_ACTS (state memory (x ∷ []) typed drawn output) (Returns answer) (state memory locals' typed drawn output) count

module _ (p : Program) (mapped : IsMapped p) (f w : ℕ) (memory typed output : List ℕ) (drawn : ℕ) (sh : Shape) (is : IsShape sh) (cells : ℕ → ℕ) (h : Holds p.world.layout memory cells) (S : Substitution) (st : Stands sh cells S) where
  abbrev at : ℕ → State
  at x = state memory (x ∷ []) typed drawn output

  equals : (x k : ℕ) (t : Bool) → (x == k) ≡ t → answer_of p (at x) (record { comparison = comparisons.Equal; first = atoms.Var 1; second = atoms.Num k; answer = true }) ≡ Some t
  equals x k t e = tested p (at x) comparisons.Equal (atoms.Var 1) (atoms.Num k) true x k t (local_1 p memory x [] typed drawn output) refl e

  less : (x k : ℕ) (answer t : Bool) → compared comparisons.Less x k ≡ t → answer_of p (at x) (record { comparison = comparisons.Less; first = atoms.Var 1; second = atoms.Num k; answer = answer }) ≡ Some t
  less x k answer t e = tested p (at x) comparisons.Less (atoms.Var 1) (atoms.Num k) answer x k t (local_1 p memory x [] typed drawn output) refl e

  simple : (x : ℕ) → x < 28672 → Kind p f w memory typed output drawn x 0
  unfolding behind_label
  simple x lt = record {
    locals' = x ∷ [];
    count = 3;
    few = omega arith;
    runs = passed (equals x 28672 false (ne_eqb x 28672 (λ (e : x ≡ 28672). (omega arith)))) (taken (less x 0 false false (simple_is_positive x (omega arith))) refl (returns refl));
  }

  empty : Kind p f w memory typed output drawn 28672 1
  unfolding behind_label
  empty = record {
    locals' = 28672 ∷ [];
    count = 2;
    few = omega arith;
    runs = taken (equals 28672 28672 true refl) refl (returns refl);
  }

  free : (k : ℕ) → k < 10000 → Kind p f w memory typed output drawn (32768 + k) 0
  unfolding behind_label
  free k lt =
      let x = 32768 + k in
      record {
        locals' = x ∷ [];
        count = 4;
        few = omega arith;
        runs = passed (equals x 28672 false (ne_eqb x 28672 (λ (e : x ≡ 28672). (omega arith))))
            (passed (less x 0 false true (reference_is_negative k (omega arith))) (taken (less x 49152 true true (reference k (omega arith))) refl (returns refl)));
      }

  -- up to the test of a box's header
  to_header : (k header n : ℕ) (o : Outcome) (s' : State) → k + 2 < 10000 → Cell sh k header → Runs p f w LIST_KIND_ACTS (drop 4 LIST_KIND_ACTS) (at header) o s' n → Runs p f w LIST_KIND_ACTS LIST_KIND_ACTS (at (49152 + k)) o s' (suc (suc (suc (suc n))))
  to_header k header n o s' lt c rest =
      let x = 49152 + k in
      let room = mapped.room in
      passed (equals x 28672 false (ne_eqb x 28672 (λ (e : x ≡ 28672). (omega arith))))
      (passed (less x 0 false true (boxed_is_negative k (omega arith)))
      (passed (less x 49152 true false (boxed_no_reference k (omega arith)))
      (done (computes p (at x) (at header) 1 functions.Word (atoms.Num 33438) (atoms.Var 1) 33438 x header refl (local_1 p memory x [] typed drawn output) (reads_cell p.world.layout memory cells 33438 x (heap_at + k) h (omega arith) (omega arith) ∙ ap word (st.fixed k (omega arith) c.fixed ∙ c.is)) (put_1 p memory x header [] typed drawn output)) rest)))

  pair_kind : (k : ℕ) → k + 2 < 10000 → Cell sh k 0 → Kind p f w memory typed output drawn (49152 + k) 2
  unfolding behind_label
  pair_kind k lt c = record {
    locals' = 0 ∷ [];
    count = 6;
    few = omega arith;
    runs = to_header k 0 2 (Returns 2) (at 0) lt c (taken (equals 0 0 true refl) refl (returns refl));
  }

  other_kind : (k header : ℕ) → k + 2 < 10000 → 0 < header → Cell sh k header → Kind p f w memory typed output drawn (49152 + k) 0
  other_kind k header lt some c = record {
    locals' = header ∷ [];
    count = 6;
    few = omega arith;
    runs = to_header k header 2 (Returns 0) (at header) lt c (passed (equals header 0 false (ne_eqb header 0 (λ (e : header ≡ 0). (omega arith)))) (at_label (returns refl)));
  }

  pub kind_works : (x : ℕ) (v : Value) → Shows sh x v → Kind p f w memory typed output drawn x (list_kind v)
  kind_works x v (number n lt) = simple n (omega arith)
  kind_works x v (dict n lt) = simple (16384 + n) (omega arith)
  kind_works x v (object n lt) = simple (24576 + n) (omega arith)
  kind_works x v nil = empty
  kind_works x v (variable n lt) = let low = is.within n lt in free (sh.place n) low
  kind_works x v (boxed k header lt box cell (pair_in _ a b one two head tail)) = pair_kind k lt cell
  kind_works x v (boxed k header lt box cell (closure_in _ place small told few count all)) = other_kind k (1 + place) lt (omega arith) cell
  kind_works x v (boxed k header lt box cell (word_in {letters = xs} _ fine all)) = other_kind k (32768 + length xs) lt (omega arith) cell
