-- The numbers of two values are told one after another, and the routine that compares them.
use Rattle.std.proofs.Common.{◌≡◌, ℕ, suc, ◌+◌, ◌*◌, ◌<◌, ◌≤◌, Bool, true, false, inl, inr, List, [], ◌∷◌, drop, Some, refl, sym, subst, arith}
use Rattle.std.specs.Prelude.{nat_lt}
use Rattle.std.proofs.lemmas.Bool.{cases_lt, lt-ltb, le-ltb}
use Rattle.dg_base.specs.declared.program.CompareOp.TheVariants.{Less}
use Rattle.dg_meaning.specs.Values.{Num, Value, Node, Values}
use Rattle.dg_meaning.specs.Substitutions.{Substitution, walk, links}
use Rattle.dg_meaning.specs.Numbers.{are_in_order}
use Rattle.z_lang.specs.declared.act.Act.{Act}
use Rattle.z_lang.specs.declared.act.Act.TheVariants as acts
use Rattle.z_lang.specs.declared.act.Args.TheVariants as args
use Rattle.z_lang.specs.declared.act.Atom.TheVariants as atoms
use Rattle.z_lang.specs.declared.act.Comparison.TheVariants as comparisons
use Rattle.z_lang.specs.State.{State, Program}
use Rattle.z_lang.specs.Acts.{answer_of}
use Rattle.z_lang.specs.Runs.{ActsRun as Runs, ActsOutcome as Outcome, Returns, at_label, taken, passed, calls, returns, behind_label}
use Rattle.dg_rt.specs.declared.numbers.TheConstants.{NUMBER}
use Rattle.dg_rt.specs.declared.operands.TheConstants.{NUMBER_ACTS}
use Rattle.dg_rt.specs.declared.conditions.TheConstants.{IF_LESS_ACTS}
use Rattle.dg_rt.specs.Cells.{compared, Holds}
use Rattle.dg_rt.specs.Areas.{state}
use Rattle.dg_rt.specs.Shapes.{Shape, IsShape, Shows, Stands}
use Rattle.dg_rt.specs.RunTime.{routine_of, HasRunTime}
use Rattle.dg_rt.specs.Operands.{no_value, number_word, FitsStory}
use Rattle.dg_rt.specs.Conditions.{next_if, OrderWorks}
use Rattle.dg_rt.proofs.AtTop.{operands_work}
use Rattle.dg_rt.proofs.Following.{tested, local_1, local_2, local_3, put_1, put_2}
use Rattle.dg_rt.proofs.NoNumbers.{Kind, is_number, is_none, kind_of}
use Rattle.dg_rt.proofs.Locals.{less_by, not_less_by, high_is_less, low_not_less}

number_at : (p : Program) → HasRunTime p → p.routine_at (p.names.routine NUMBER) ≡ Some (routine_of 1 NUMBER_ACTS)
number_at p has = has.each 34 (routine_of 1 NUMBER_ACTS) refl

-- Both numbers are told first.
abbrev pub both_first : List Act → List Act
both_first rest =
    acts.Call (Some 1) (atoms.Routine NUMBER) (args.One (atoms.Var 1)) ∷ acts.Call (Some 2) (atoms.Routine NUMBER) (args.One (atoms.Var 2)) ∷ rest

-- They were, and acts went on behind them.
pub record Both (p : Program) (f w : ℕ) (body rest : List Act) (memory typed output : List ℕ) (drawn x y z : ℕ) (S : Substitution) (v u : Value) : Type 0 where
  pub first_fits : FitsStory (walk S v)
  pub second_fits : FitsStory (walk S u)
  pub count : ℕ
  pub few : count ≤ 5 * links S v + 5 * links S u + 18
  pub runs : (o : Outcome) (s' : State) (n : ℕ) → Runs p f w body rest (state memory (number_word (walk S v) ∷ number_word (walk S u) ∷ z ∷ []) typed drawn output) o s' n →
      Runs p f w body (both_first rest) (state memory (x ∷ y ∷ z ∷ []) typed drawn output) o s' (count + n)

pub both_told : (p : Program) → HasRunTime p → (f w : ℕ) → 2 ≤ f → 8 ≤ w → (body rest : List Act) (memory typed output : List ℕ) (drawn : ℕ) (sh : Shape) → IsShape sh → (cells : ℕ → ℕ) → Holds p.world.layout memory cells → (S : Substitution) → Stands sh cells S → (x y z : ℕ) (v u : Value) → Shows sh x v → Shows sh y u →
    Both p f w body rest memory typed output drawn x y z S v u
both_told p has f w some enough body rest memory typed output drawn sh is cells h S st x y z v u sx sy =
    let a = operands_work.number p has 1 4 (omega arith) (omega arith) memory typed output drawn sh is cells h S st x v sx in
    let b = operands_work.number p has 1 4 (omega arith) (omega arith) memory typed output drawn sh is cells h S st y u sy in
    let m = number_word (walk S v) in
    let n = number_word (walk S u) in
    let at : ℕ → ℕ → State = λ i j. state memory (i ∷ j ∷ z ∷ []) typed drawn output in
    let few = a.few in
    let few' = b.few in
    record {
      first_fits = a.fits;
      second_fits = b.fits;
      count = suc a.count + suc b.count;
      few = omega arith;
      runs = λ o s' k go.
          let sum : suc a.count + (suc b.count + k) ≡ suc a.count + suc b.count + k = omega arith in
          subst (Runs p f w body (both_first rest) (at x y) o s') sum
          (calls {f' = 1} {w' = 4} {n = a.count} {n' = suc b.count + k} {xs = (x, 0, 0)} {s1 = state memory a.locals' typed drawn output} {s2 = at m y} refl (rw (local_1 p memory x (y ∷ z ∷ []) typed drawn output) refl) (number_at p has) (omega arith) (omega arith) a.runs (put_1 p memory x m (y ∷ z ∷ []) typed drawn output)
          (calls {f' = 1} {w' = 4} {n = b.count} {n' = k} {xs = (y, 0, 0)} {s1 = state memory b.locals' typed drawn output} {s2 = at m n} refl (rw (local_2 p memory m y (z ∷ []) typed drawn output) refl) (number_at p has) (omega arith) (omega arith) b.runs (put_2 p memory m y n (z ∷ []) typed drawn output) go));
    }

-- ## Comparison

module _ (p : Program) (f w : ℕ) (memory typed output : List ℕ) (drawn next : ℕ) where
  abbrev at : ℕ → ℕ → State
  at a b = state memory (a ∷ b ∷ next ∷ []) typed drawn output

  record Answers (a b : ℕ) (passed : Bool) : Type 0 where
    count : ℕ
    few : count ≤ 4
    runs : Runs p f w IF_LESS_ACTS (drop 2 IF_LESS_ACTS) (at a b) (Returns (next_if p passed next)) (at a b) count

  less_0 : (a b : ℕ) (t : Bool) → compared comparisons.Less a 0 ≡ t → answer_of p (at a b) (record { comparison = comparisons.Less; first = atoms.Var 1; second = atoms.Num 0; answer = true }) ≡ Some t
  less_0 a b t e = tested p (at a b) comparisons.Less (atoms.Var 1) (atoms.Num 0) true a 0 t (local_1 p memory a (b ∷ next ∷ []) typed drawn output) refl e

  less : (a b : ℕ) (t : Bool) → compared comparisons.Less a b ≡ t → answer_of p (at a b) (record { comparison = comparisons.Less; first = atoms.Var 1; second = atoms.Var 2; answer = true }) ≡ Some t
  less a b t e = tested p (at a b) comparisons.Less (atoms.Var 1) (atoms.Var 2) true a b t (local_1 p memory a (b ∷ next ∷ []) typed drawn output) (local_2 p memory a b (next ∷ []) typed drawn output) e

  no_first : (b : ℕ) → Answers no_value b false
  unfolding behind_label
  no_first b = record { count = 2; few = omega arith; runs = taken (less_0 65535 b true (high_is_less 65535 0 (omega arith) (omega arith) (omega arith))) refl (returns refl) }

  not_less : (a b : ℕ) → a < 16384 → compared comparisons.Less a b ≡ false → Answers a b false
  not_less a b lt e = record {
    count = 3;
    few = omega arith;
    runs = passed (less_0 a b false (not_less_by a 0 (omega arith) (omega arith) (omega arith))) (passed (less a b false e) (at_label (returns refl)));
  }

  is_less : (a b : ℕ) → a < b → b < 16384 → Answers a b true
  unfolding behind_label
  is_less a b lt small = record {
    count = 3;
    few = omega arith;
    runs = passed (less_0 a b false (not_less_by a 0 (omega arith) (omega arith) (omega arith)))
        (taken (less a b true (less_by a b (omega arith) (omega arith) lt)) refl (returns (local_3 p memory a b next [] typed drawn output)));
  }

  two_numbers : (m n : ℕ) → m < 16384 → n < 16384 → Answers m n (nat_lt m n)
  two_numbers m n a b = elim (cases_lt m n) [
    | inl lt ↦ subst (Answers m n) (sym (lt-ltb m n lt)) (is_less m n lt b)
    | inr ge ↦ subst (Answers m n) (sym (le-ltb m n ge)) (not_less m n a (not_less_by m n (omega arith) (omega arith) ge))
  ]

  first_number : (m : ℕ) (ms : Values) (u : Value) → m < 16384 → Kind u → Answers m (number_word u) (are_in_order Less (Node (Num m) ms) u)
  first_number m ms u lt (is_number n ns small) = two_numbers m n lt small
  first_number m ms u lt (is_none none) = rw (none.word, none.order_right Less m ms) (not_less m no_value lt (low_not_less m 65535 (omega arith) (omega arith) (omega arith)))

  by_kinds : (v u : Value) → Kind v → Kind u → Answers (number_word v) (number_word u) (are_in_order Less v u)
  by_kinds v u (is_number m ms lt) k = first_number m ms u lt k
  by_kinds v u (is_none none) k = rw (none.word, none.order_left Less u) (no_first (number_word u))

pub order_works : OrderWorks
order_works p has f w some enough memory typed output drawn sh is cells h S st x y next v u sx sy =
    let b = both_told p has f w some enough IF_LESS_ACTS (drop 2 IF_LESS_ACTS) memory typed output drawn sh is cells h S st x y next v u sx sy in
    let a = by_kinds p f w memory typed output drawn next (walk S v) (walk S u) (kind_of (walk S v) b.first_fits) (kind_of (walk S u) b.second_fits) in
    let few = b.few in
    let few' = a.few in
    record {
      locals' = number_word (walk S v) ∷ number_word (walk S u) ∷ next ∷ [];
      count = b.count + a.count;
      few = omega arith;
      runs = b.runs (Returns (next_if p (are_in_order Less (walk S v) (walk S u)) next)) _ a.count a.runs;
    }
