-- The routine that tells which object a value is, and routines that begin with it.
use Rattle.std.proofs.Common.{◌≡◌, ℕ, suc, ◌+◌, ◌*◌, ◌<◌, ◌≤◌, inl, inr, Bool, true, false, List, [], ◌∷◌, drop, Some, refl, arith}
use Rattle.std.proofs.lemmas.Bool.{cases_lt}
use Rattle.dg_meaning.specs.Values.{Num, Word, Unknown, Object, Nil, Pair, Closure, Value, Var, Node, Values}
use Rattle.dg_meaning.specs.Substitutions.{Substitution, walk, links, resolved}
use Rattle.dg_meaning.specs.inside.Substitutions.{all_resolved}
use Rattle.z_lang.specs.declared.act.Act.{Act}
use Rattle.z_lang.specs.declared.act.Act.TheVariants as acts
use Rattle.z_lang.specs.declared.act.Args.TheVariants as args
use Rattle.z_lang.specs.declared.act.Atom.TheVariants as atoms
use Rattle.z_lang.specs.declared.act.Comparison.TheVariants as comparisons
use Rattle.z_lang.specs.State.{State, Program, value, put}
use Rattle.z_lang.specs.Acts.{answer_of}
use Rattle.z_lang.specs.Runs.{ActsRun as Runs, ActsOutcome as Outcome, Returns, taken, passed, calls, returns, behind_label, at_label}
use Rattle.dg_rt.specs.declared.numbers.TheConstants.{OBJECT, THERE}
use Rattle.dg_rt.specs.declared.operands.TheConstants.{OBJECT_ACTS}
use Rattle.dg_rt.specs.declared.changes.TheConstants.{THERE_ACTS}
use Rattle.dg_rt.specs.Cells.{compared, Holds}
use Rattle.dg_rt.specs.Areas.{state}
use Rattle.dg_rt.specs.Shapes.{Shape, IsShape, Shows, Stands}
use Rattle.dg_rt.specs.RunTime.{routine_of, HasRunTime}
use Rattle.dg_rt.specs.Operands.{no_value, object_word, FitsStory}
use Rattle.dg_rt.proofs.AtTop.{operands_work}
use Rattle.dg_rt.proofs.Following.{word, some_state, tested, register, local_1, local_2, put_1}
use Rattle.dg_rt.proofs.Locals.{less_by, not_less_by, high_is_less}
use Rattle.dg_rt.proofs.Objects.{Told, is_there, is_past, is_free, resolved_to, resolved_free, told_other}

pub object_at : (p : Program) → HasRunTime p → p.routine_at (p.names.routine OBJECT) ≡ Some (routine_of 1 OBJECT_ACTS)
object_at p has = has.each 35 (routine_of 1 OBJECT_ACTS) refl

there_at : (p : Program) → HasRunTime p → p.routine_at (p.names.routine THERE) ≡ Some (routine_of 2 THERE_ACTS)
there_at p has = has.each 73 (routine_of 2 THERE_ACTS) refl

-- What is told of a value is answered, in 5 instructions a link and 13.
record There (p : Program) (f w : ℕ) (memory typed output : List ℕ) (drawn x n : ℕ) (S : Substitution) (v : Value) : Type 0 where
  answer : ℕ
  told : Told n (walk S v) (resolved S v) answer
  locals' : List ℕ
  count : ℕ
  few : count ≤ 5 * links S v + 13
  runs : Runs p f w THERE_ACTS THERE_ACTS (state memory (x ∷ n ∷ []) typed drawn output) (Returns answer) (state memory locals' typed drawn output) count

module _ (p : Program) (f w : ℕ) (memory typed output : List ℕ) (drawn n : ℕ) (few : n ≤ 4096) (S : Substitution) (v : Value) where
  abbrev at : ℕ → State
  at x = state memory (x ∷ n ∷ []) typed drawn output

  -- the same behind the call
  record Ends (x : ℕ) : Type 0 where
    answer : ℕ
    told : Told n (walk S v) (resolved S v) answer
    count : ℕ
    small : count ≤ 4
    runs : Runs p f w THERE_ACTS (drop 1 THERE_ACTS) (at x) (Returns answer) (at x) count

  less_0 : (x : ℕ) (t : Bool) → compared comparisons.Less x 0 ≡ t → answer_of p (at x) (record { comparison = comparisons.Less; first = atoms.Var 1; second = atoms.Num 0; answer = true }) ≡ Some t
  less_0 x t e = tested p (at x) comparisons.Less (atoms.Var 1) (atoms.Num 0) true x 0 t (local_1 p memory x (n ∷ []) typed drawn output) refl e

  less_n : (x : ℕ) (t : Bool) → compared comparisons.Less x n ≡ t → answer_of p (at x) (record { comparison = comparisons.Less; first = atoms.Var 1; second = atoms.Var 2; answer = true }) ≡ Some t
  less_n x t e = tested p (at x) comparisons.Less (atoms.Var 1) (atoms.Var 2) true x n t (local_1 p memory x (n ∷ []) typed drawn output) (local_2 p memory x n [] typed drawn output) e

  none_told : Told n (walk S v) (resolved S v) no_value → Ends no_value
  unfolding behind_label
  none_told told = record { answer = no_value; told = told; count = 2; small = omega arith; runs = taken (less_0 65535 true (high_is_less 65535 0 (omega arith) (omega arith) (omega arith))) refl (returns refl) }

  there : (o : ℕ) → o < 4096 → o < n → Told n (walk S v) (resolved S v) o → Ends o
  unfolding behind_label
  there o lt less told = record {
    answer = o;
    told = told;
    count = 3;
    small = omega arith;
    runs = passed (less_0 o false (not_less_by o 0 (omega arith) (omega arith) (omega arith)))
        (taken (less_n o true (less_by o n (omega arith) (omega arith) less)) refl (returns (local_1 p memory o (n ∷ []) typed drawn output)));
  }

  past : (o : ℕ) → o < 4096 → n ≤ o → Told n (walk S v) (resolved S v) no_value → Ends o
  past o lt le told = record {
    answer = no_value;
    told = told;
    count = 3;
    small = omega arith;
    runs = passed (less_0 o false (not_less_by o 0 (omega arith) (omega arith) (omega arith)))
        (passed (less_n o false (not_less_by o n (omega arith) (omega arith) le)) (at_label (returns refl)));
  }

  module _ (sh : Shape) (cells : ℕ → ℕ) (st : Stands sh cells S) where
    of_object : (o : ℕ) (parts : Values) → o < 4096 → walk S v ≡ Node (Object o) parts → Ends o
    of_object o parts lt e = elim (cases_lt o n) [
      | inl less ↦ there o lt less (rw (e, resolved_to S st.sound v (Object o) parts e) (is_there o parts (all_resolved S parts) less))
      | inr le ↦ past o lt le (rw (e, resolved_to S st.sound v (Object o) parts e) (is_past o parts (all_resolved S parts) le))
    ]

    by_top : (u : Value) → FitsStory u → walk S v ≡ u → Ends (object_word u)
    by_top (Var x) fits e = none_told (rw (e, resolved_free S st.sound v x e) (is_free x))
    by_top (Node (Num k) parts) fits e = none_told (told_other n S st.sound v (Num k) parts tt e)
    by_top (Node (Word k) parts) fits e = none_told (told_other n S st.sound v (Word k) parts tt e)
    by_top (Node (Unknown spelling) parts) fits e = none_told (told_other n S st.sound v (Unknown spelling) parts tt e)
    by_top (Node (Object o) parts) fits e = of_object o parts fits e
    by_top (Node Nil parts) fits e = none_told (told_other n S st.sound v Nil parts tt e)
    by_top (Node Pair parts) fits e = none_told (told_other n S st.sound v Pair parts tt e)
    by_top (Node (Closure place) parts) fits e = none_told (told_other n S st.sound v (Closure place) parts tt e)

there_works : (p : Program) → HasRunTime p → (f w : ℕ) → 2 ≤ f → 8 ≤ w → (memory typed output : List ℕ) (drawn : ℕ) (sh : Shape) → IsShape sh → (cells : ℕ → ℕ) → Holds p.world.layout memory cells → (S : Substitution) → Stands sh cells S → (x n : ℕ) → n ≤ 4096 → (v : Value) → Shows sh x v → There p f w memory typed output drawn x n S v
there_works p has f w some enough memory typed output drawn sh is cells h S st x n small v s =
    let a = operands_work.object p has 1 4 (omega arith) (omega arith) memory typed output drawn sh is cells h S st x v s in
    let e = by_top p f w memory typed output drawn n small S v sh cells st (walk S v) a.fits refl in
    let few = a.few in
    let few' = e.small in
    let o = object_word (walk S v) in
    let now : ℕ → State = λ i. state memory (i ∷ n ∷ []) typed drawn output in
    record {
      answer = e.answer;
      told = e.told;
      locals' = o ∷ n ∷ [];
      count = suc a.count + e.count;
      few = omega arith;
      runs = calls {f' = 1} {w' = 4} {n = a.count} {n' = e.count} {xs = (x, 0, 0)} {s1 = state memory a.locals' typed drawn output} {s2 = now o} refl (rw (local_1 p memory x (n ∷ []) typed drawn output) refl) (object_at p has) (omega arith) (omega arith) a.runs (put_1 p memory x o (n ∷ []) typed drawn output) e.runs;
    }

-- The first argument is told of first, and acts go on behind it with what was told in a local.
pub record ToldFirst (p : Program) (f w : ℕ) (body rest : List Act) (memory locals typed output : List ℕ) (drawn v n : ℕ) (becomes : ℕ → List ℕ) (S : Substitution) (a : Value) : Type 0 where
  pub answer : ℕ
  pub told : Told n (walk S a) (resolved S a) answer
  pub count : ℕ
  pub few : count ≤ 5 * links S a + 14
  pub runs : (o : Outcome) (s' : State) (k : ℕ) → Runs p f w body rest (state memory (becomes answer) typed drawn output) o s' k →
      Runs p f w body (acts.Call (Some v) (atoms.Routine THERE) (args.Two (atoms.Var 32) (atoms.Var 2)) ∷ rest) (state memory locals typed drawn output) o s' (count + k)

pub told_first : (p : Program) → HasRunTime p → (f w : ℕ) → 3 ≤ f → 16 ≤ w → (body rest : List Act) (memory locals typed output : List ℕ) (drawn : ℕ) (sh : Shape) → IsShape sh → (cells : ℕ → ℕ) → Holds p.world.layout memory cells → (S : Substitution) → Stands sh cells S → (v n : ℕ) → n ≤ 4096 → (becomes : ℕ → List ℕ) → ((y : ℕ) → put p v y (state memory locals typed drawn output) ≡ some_state (state memory (becomes y) typed drawn output)) → value p (state memory locals typed drawn output) (atoms.Var 2) ≡ word n → (a : Value) → Shows sh (cells 16) a → ToldFirst p f w body rest memory locals typed output drawn v n becomes S a
told_first p has f w some enough body rest memory locals typed output drawn sh is cells h S st v n small becomes puts two a s =
    let high = has.mapped.room in
    let t = there_works p has 2 8 (omega arith) (omega arith) memory typed output drawn sh is cells h S st (cells 16) n small a s in
    let few = t.few in
    let now = state memory locals typed drawn output in
    record {
      answer = t.answer;
      told = t.told;
      count = suc t.count;
      few = omega arith;
      runs = λ o s' k go.
          calls {f' = 2} {w' = 8} {n = t.count} {n' = k} {xs = (cells 16, n, 0)} {s1 = state memory t.locals' typed drawn output} {s2 = state memory (becomes t.answer) typed drawn output} refl (rw (register p now cells 32 h (omega arith) (omega arith) (omega arith), two) refl) (there_at p has) (omega arith) (omega arith) t.runs (puts t.answer) go;
    }
