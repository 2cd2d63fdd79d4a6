-- The routines that say what an operand is do so.
use Rattle.std.proofs.Common.{◌≡◌, ℕ, suc, ◌+◌, ◌<◌, ◌≤◌, Bool, true, false, List, [], ◌∷◌, drop, Some, refl, arith}
use Rattle.z_lang.specs.declared.act.Act.{Act}
use Rattle.z_lang.specs.declared.act.Act.TheVariants as acts
use Rattle.z_lang.specs.declared.act.Args.TheVariants as args
use Rattle.z_lang.specs.declared.act.Atom.TheVariants as atoms
use Rattle.z_lang.specs.declared.act.Comparison.TheVariants as comparisons
use Rattle.z_lang.specs.declared.act.Function.TheVariants as functions
use Rattle.z_lang.specs.State.{State, Program}
use Rattle.z_lang.specs.Acts.{answer_of}
use Rattle.z_lang.specs.Runs.{ActsRun as Runs, Returns, done, taken, passed, calls, returns, behind_label, at_label}
use Rattle.dg_meaning.specs.Values.{Value, Var, Node}
use Rattle.dg_meaning.specs.Substitutions.{Substitution, walk}
use Rattle.dg_rt.specs.declared.numbers.TheConstants.{WALK}
use Rattle.dg_rt.specs.declared.operands.TheConstants.{NUMBER_ACTS, OBJECT_ACTS, SIMPLE_ACTS}
use Rattle.dg_rt.specs.Cells.{compared, Holds}
use Rattle.dg_rt.specs.Areas.{state}
use Rattle.dg_rt.specs.Shapes.{Shape, IsShape, Shows, number, dict, object, nil, variable, boxed, pair_in, closure_in, word_in, Stands}
use Rattle.dg_rt.specs.RunTime.{HasRunTime}
use Rattle.dg_rt.specs.Operands.{no_value, number_word, object_word, simple_word, FitsStory, LooksUp, OperandsWork}
use Rattle.dg_rt.specs.inside.Walks.{ending}
use Rattle.dg_rt.proofs.Following.{tested, computes, local_1, put_1}
use Rattle.dg_rt.proofs.Locals.{subtracts, less_by, not_less_by, high_is_less}
use Rattle.dg_rt.proofs.Standing.{walk_at}
use Rattle.dg_rt.proofs.Walking.{walk_works}

module _ (p : Program) (f w : ℕ) (memory typed output : List ℕ) (drawn : ℕ) where
  abbrev at : ℕ → State
  at x = state memory (x ∷ []) typed drawn output

  -- This is answered of a word that was looked up.
  record Answers (body more : List Act) (x answer most : ℕ) : Type 0 where
    locals' : List ℕ
    count : ℕ
    few : count ≤ most
    runs : Runs p f w body more (at x) (Returns answer) (state memory locals' typed drawn output) count

  less : (x k : ℕ) (t answer : Bool) → compared comparisons.Less x k ≡ t → answer_of p (at x) (record { comparison = comparisons.Less; first = atoms.Var 1; second = atoms.Num k; answer = answer }) ≡ Some t
  less x k t answer e = tested p (at x) comparisons.Less (atoms.Var 1) (atoms.Num k) answer x k t (local_1 p memory x [] typed drawn output) refl e

  -- ---- numbers

  number_high : (x most : ℕ) → 32768 ≤ x → x < 65536 → 2 ≤ most → Answers NUMBER_ACTS (drop 1 NUMBER_ACTS) x no_value most
  unfolding behind_label
  number_high x most le lt enough = record {
    locals' = x ∷ [];
    count = 2;
    few = omega arith;
    runs = taken (less x 0 true true (high_is_less x 0 le lt (omega arith))) refl (returns refl);
  }

  number_other : (x : ℕ) → 16384 ≤ x → x < 32768 → Answers NUMBER_ACTS (drop 1 NUMBER_ACTS) x no_value 4
  number_other x le lt = record {
    locals' = x ∷ [];
    count = 3;
    few = omega arith;
    runs = passed (less x 0 false true (not_less_by x 0 lt (omega arith) (omega arith)))
        (passed (less x 16384 false true (not_less_by x 16384 lt (omega arith) le)) (at_label (returns refl)));
  }

  number_low : (x : ℕ) → x < 16384 → Answers NUMBER_ACTS (drop 1 NUMBER_ACTS) x x 4
  unfolding behind_label
  number_low x lt = record {
    locals' = x ∷ [];
    count = 3;
    few = omega arith;
    runs = passed (less x 0 false true (not_less_by x 0 (omega arith) (omega arith) (omega arith)))
        (taken (less x 16384 true true (less_by x 16384 (omega arith) (omega arith) lt)) refl (returns (local_1 p memory x [] typed drawn output)));
  }

  -- ---- objects

  object_high : (x most : ℕ) → 32768 ≤ x → x < 65536 → 2 ≤ most → Answers OBJECT_ACTS (drop 1 OBJECT_ACTS) x no_value most
  unfolding behind_label
  object_high x most le lt enough = record {
    locals' = x ∷ [];
    count = 2;
    few = omega arith;
    runs = taken (less x 24576 true true (high_is_less x 24576 le lt (omega arith))) refl (returns refl);
  }

  object_low : (x : ℕ) → x < 24576 → Answers OBJECT_ACTS (drop 1 OBJECT_ACTS) x no_value 4
  unfolding behind_label
  object_low x lt = record {
    locals' = x ∷ [];
    count = 2;
    few = omega arith;
    runs = taken (less x 24576 true true (less_by x 24576 (omega arith) (omega arith) lt)) refl (returns refl);
  }

  object_nil : Answers OBJECT_ACTS (drop 1 OBJECT_ACTS) 28672 no_value 4
  object_nil = record {
    locals' = 28672 ∷ [];
    count = 3;
    few = omega arith;
    runs = passed (less 28672 24576 false true refl) (passed (less 28672 28672 false true refl) (at_label (returns refl)));
  }

  object_is : (n : ℕ) → n < 4096 → Answers OBJECT_ACTS (drop 1 OBJECT_ACTS) (24576 + n) n 4
  unfolding behind_label
  object_is n lt =
      let x = 24576 + n in
      record {
        locals' = n ∷ [];
        count = 4;
        few = omega arith;
        runs = passed (less x 24576 false true (not_less_by x 24576 (omega arith) (omega arith) (omega arith)))
            (taken (less x 28672 true true (less_by x 28672 (omega arith) (omega arith) (omega arith))) refl
            (done (computes p (at x) (at n) 1 functions.Sub (atoms.Var 1) (atoms.Num 24576) x 24576 n (local_1 p memory x [] typed drawn output) refl (subtracts p memory x 24576 n refl (omega arith)) (put_1 p memory x n [] typed drawn output))
            (returns (local_1 p memory n [] typed drawn output))));
      }

  -- ---- simple values

  simple_high : (x most : ℕ) → 32768 ≤ x → x < 65536 → 2 ≤ most → Answers SIMPLE_ACTS (drop 1 SIMPLE_ACTS) x no_value most
  unfolding behind_label
  simple_high x most le lt enough = record {
    locals' = x ∷ [];
    count = 2;
    few = omega arith;
    runs = taken (less x 0 true true (high_is_less x 0 le lt (omega arith))) refl (returns refl);
  }

  simple_low : (x : ℕ) → x < 32768 → Answers SIMPLE_ACTS (drop 1 SIMPLE_ACTS) x x 4
  simple_low x lt = record {
    locals' = x ∷ [];
    count = 2;
    few = omega arith;
    runs = passed (less x 0 false true (not_less_by x 0 lt (omega arith) (omega arith))) (returns (local_1 p memory x [] typed drawn output));
  }

  module _ (has : HasRunTime p) (some : 1 ≤ f) (enough : 4 ≤ w) (sh : Shape) (is : IsShape sh) (cells : ℕ → ℕ) (h : Holds p.world.layout memory cells) (S : Substitution) (st : Stands sh cells S) where
    -- what is answered of a word costs less where it is a variable's
    abbrev limit : Value → ℕ
    limit (Var n) = 2
    limit (Node g vs) = 4

    both_low : (v : Value) → limit v + ending v ≤ 6
    both_low (Var n) = omega arith
    both_low (Node g vs) = omega arith

    fits : {x : ℕ} {v : Value} → Shows sh x v → FitsStory v
    fits (number n lt) = lt
    fits (dict n lt) = lt
    fits (object n lt) = lt
    fits nil = tt
    fits (variable n lt) = tt
    fits (boxed k header lt box cell (pair_in _ a b one two head tail)) = tt
    fits (boxed k header lt box cell (closure_in _ place small told few count all)) = small
    fits (boxed k header lt box cell (word_in _ fine all)) = tt

    number_of : (x : ℕ) (v : Value) → Shows sh x v → Answers NUMBER_ACTS (drop 1 NUMBER_ACTS) x (number_word v) (limit v)
    number_of x v (number n lt) = number_low n lt
    number_of x v (dict n lt) = number_other (16384 + n) (omega arith) (omega arith)
    number_of x v (object n lt) = number_other (24576 + n) (omega arith) (omega arith)
    number_of x v nil = number_other 28672 (omega arith) (omega arith)
    number_of x v (variable n lt) = let low = is.within n lt in number_high (32768 + sh.place n) 2 (omega arith) (omega arith) (omega arith)
    number_of x v (boxed k header lt box cell (pair_in _ a b one two head tail)) = number_high (49152 + k) 4 (omega arith) (omega arith) (omega arith)
    number_of x v (boxed k header lt box cell (closure_in _ place small told few count all)) = number_high (49152 + k) 4 (omega arith) (omega arith) (omega arith)
    number_of x v (boxed k header lt box cell (word_in _ fine all)) = number_high (49152 + k) 4 (omega arith) (omega arith) (omega arith)

    object_of : (x : ℕ) (v : Value) → Shows sh x v → Answers OBJECT_ACTS (drop 1 OBJECT_ACTS) x (object_word v) (limit v)
    object_of x v (number n lt) = object_low n (omega arith)
    object_of x v (dict n lt) = object_low (16384 + n) (omega arith)
    object_of x v (object n lt) = object_is n lt
    object_of x v nil = object_nil
    object_of x v (variable n lt) = let low = is.within n lt in object_high (32768 + sh.place n) 2 (omega arith) (omega arith) (omega arith)
    object_of x v (boxed k header lt box cell (pair_in _ a b one two head tail)) = object_high (49152 + k) 4 (omega arith) (omega arith) (omega arith)
    object_of x v (boxed k header lt box cell (closure_in _ place small told few count all)) = object_high (49152 + k) 4 (omega arith) (omega arith) (omega arith)
    object_of x v (boxed k header lt box cell (word_in _ fine all)) = object_high (49152 + k) 4 (omega arith) (omega arith) (omega arith)

    simple_of : (x : ℕ) (v : Value) → Shows sh x v → Answers SIMPLE_ACTS (drop 1 SIMPLE_ACTS) x (simple_word v) (limit v)
    simple_of x v (number n lt) = simple_low n (omega arith)
    simple_of x v (dict n lt) = simple_low (16384 + n) (omega arith)
    simple_of x v (object n lt) = simple_low (24576 + n) (omega arith)
    simple_of x v nil = simple_low 28672 (omega arith)
    simple_of x v (variable n lt) = let low = is.within n lt in simple_high (32768 + sh.place n) 2 (omega arith) (omega arith) (omega arith)
    simple_of x v (boxed k header lt box cell (pair_in _ a b one two head tail)) = simple_high (49152 + k) 4 (omega arith) (omega arith) (omega arith)
    simple_of x v (boxed k header lt box cell (closure_in _ place small told few count all)) = simple_high (49152 + k) 4 (omega arith) (omega arith) (omega arith)
    simple_of x v (boxed k header lt box cell (word_in _ fine all)) = simple_high (49152 + k) 4 (omega arith) (omega arith) (omega arith)

    -- A routine looks its local up first.
    abbrev walks_first : List Act → List Act
    walks_first more = acts.Call (Some 1) (atoms.Routine WALK) (args.One (atoms.Var 1)) ∷ more

    looks_up : (more : List Act) (answer : Value → ℕ) → ((x : ℕ) (v : Value) → Shows sh x v → Answers (walks_first more) more x (answer v) (limit v)) → (x : ℕ) (v : Value) → Shows sh x v → LooksUp p f w (walks_first more) memory typed output drawn x S v answer
    looks_up more answer by x v s =
        let r = walk_works p has sh is 0 0 memory typed output drawn 0 0 cells h S st x 0 v s in
        let a = by r.word (walk S v) r.shows in
        let few = r.few in
        let few' = a.few in
        let both = both_low (walk S v) in
        record {
          fits = fits r.shows;
          locals' = a.locals';
          count = suc r.count + a.count;
          few = omega arith;
          runs = calls {f' = 0} {w' = 0} {n = r.count} {n' = a.count} {xs = (x, 0, 0)} {s1 = state memory r.locals' typed drawn output} {s2 = at r.word} refl (rw (local_1 p memory x [] typed drawn output) refl) (walk_at p has) some enough r.runs (put_1 p memory x r.word [] typed drawn output) a.runs;
        }

pub operands_work : OperandsWork
operands_work = record {
  number = λ p has f w some enough memory typed output drawn sh is cells h S st x v s. looks_up p f w memory typed output drawn has some enough sh is cells h S st (drop 1 NUMBER_ACTS) number_word (number_of p f w memory typed output drawn has some enough sh is cells h S st) x v s;
  object = λ p has f w some enough memory typed output drawn sh is cells h S st x v s. looks_up p f w memory typed output drawn has some enough sh is cells h S st (drop 1 OBJECT_ACTS) object_word (object_of p f w memory typed output drawn has some enough sh is cells h S st) x v s;
  simple = λ p has f w some enough memory typed output drawn sh is cells h S st x v s. looks_up p f w memory typed output drawn has some enough sh is cells h S st (drop 1 SIMPLE_ACTS) simple_word (simple_of p f w memory typed output drawn has some enough sh is cells h S st) x v s;
}
