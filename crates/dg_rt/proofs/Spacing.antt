-- The routine that asks for so many spaces does so.
use Rattle.std.proofs.Common.{◌≡◌, ℕ, suc, ◌+◌, ◌*◌, ◌<◌, ◌≤◌, inl, inr, Bool, true, false, List, [], ◌∷◌, drop, Some, refl, sym, ap, ◌∙◌, subst, arith}
use Rattle.std.specs.Prelude.{min}
use Rattle.std.proofs.lemmas.Bool.{ne_eqb, eq-eqb, cases_lt}
use Rattle.dg_meaning.specs.Values.{Value}
use Rattle.dg_meaning.specs.Substitutions.{Substitution, walk, links}
use Rattle.z_lang.specs.declared.act.Atom.TheVariants as atoms
use Rattle.z_lang.specs.declared.act.Comparison.TheVariants as comparisons
use Rattle.z_lang.specs.declared.act.Function.TheVariants as functions
use Rattle.z_lang.specs.State.{State, Program}
use Rattle.z_lang.specs.Acts.{answer_of}
use Rattle.z_lang.specs.Runs.{ActsRun as Runs, Returns, at_label, taken, passed, done, calls, returns, behind_label}
use Rattle.dg_rt.specs.declared.numbers.TheConstants.{FAIL}
use Rattle.dg_rt.specs.declared.gaps.TheConstants.{ASK_SPACES_ACTS}
use Rattle.dg_rt.specs.declared.operands.TheConstants.{NUMBER_ACTS}
use Rattle.dg_rt.specs.Cells.{compared, with_cell, replaced, Holds}
use Rattle.dg_rt.specs.Areas.{state}
use Rattle.dg_rt.specs.RunTime.{HasRunTime}
use Rattle.dg_rt.specs.Operands.{number_word, FitsStory, LooksUp}
use Rattle.dg_rt.specs.Spaces.{AsksSpaces, HasNoNumber, SpacesWork}
use Rattle.dg_rt.proofs.AtTop.{operands_work}
use Rattle.dg_rt.proofs.Cells.{other_cell, same_cell}
use Rattle.dg_rt.proofs.Following.{word, tested, computes, copies, register, puts, local_1, local_2, put_1}
use Rattle.dg_rt.proofs.Locals.{added, less_by, not_less_by}
use Rattle.dg_rt.proofs.Standing.{number_at}

low_min : (k : ℕ) → k < 16384 → min k 16383 ≡ k
low_min k lt = omega arith

high_min : (k : ℕ) → 16384 ≤ k → min k 16383 ≡ 16383
high_min k le = omega arith

module _ (p : Program) (has : HasRunTime p) (f w : ℕ) (some : 2 ≤ f) (enough : 5 ≤ w) (memory typed output : List ℕ) (drawn : ℕ) (cells : ℕ → ℕ) (h : Holds p.world.layout memory cells) (S : Substitution) (x next : ℕ) (v : Value) where
  abbrev st : List ℕ → ℕ → State
  st m y = state m (y ∷ next ∷ []) typed drawn output

  -- The value is looked up first.
  looks : (k : LooksUp p 1 4 NUMBER_ACTS memory typed output drawn x S v number_word) (o : ℕ) (s' : State) (n : ℕ) → Runs p f w ASK_SPACES_ACTS (drop 1 ASK_SPACES_ACTS) (st memory (number_word (walk S v))) (Returns o) s' n → Runs p f w ASK_SPACES_ACTS ASK_SPACES_ACTS (st memory x) (Returns o) s' (suc k.count + n)
  looks k o s' n rest =
      calls {f' = 1} {w' = 4} {n = k.count} {n' = n} {xs = (x, 0, 0)} {s1 = state memory k.locals' typed drawn output} {s2 = st memory (number_word (walk S v))} refl (rw (local_1 p memory x (next ∷ []) typed drawn output) refl) (number_at p has) (omega arith) (omega arith) k.runs (put_1 p memory x (number_word (walk S v)) (next ∷ []) typed drawn output) rest

  no_number : (k : LooksUp p 1 4 NUMBER_ACTS memory typed output drawn x S v number_word) → number_word (walk S v) ≡ 65535 → HasNoNumber p f w memory typed output drawn x next (5 * links S v + 15)
  unfolding behind_label
  no_number k none =
      let few = k.few in
      let y = number_word (walk S v) in
      record {
        locals' = y ∷ next ∷ [];
        count = suc k.count + 2;
        few = omega arith;
        runs = looks k (p.names.routine FAIL) (st memory y) 2 (taken (tested p (st memory y) comparisons.Equal (atoms.Var 1) (atoms.Num 65535) true y 65535 true (local_1 p memory y (next ∷ []) typed drawn output) refl (eq-eqb y 65535 none)) refl (returns refl));
      }

  module _ (k : LooksUp p 1 4 NUMBER_ACTS memory typed output drawn x S v number_word) (n : ℕ) (is : number_word (walk S v) ≡ n) (small : n < 16384) (few_spaces : cells 31 ≤ 16383) where
    abbrev sum : ℕ
    sum = cells 31 + n

    abbrev m1 : List ℕ
    m1 = with_cell memory 31 sum

    abbrev c1 : ℕ → ℕ
    c1 = replaced cells 31 sum

    h1 : Holds p.world.layout m1 c1
    h1 = let high = has.mapped.room in (puts p (st memory n) cells 47 sum h (omega arith) (omega arith) (omega arith) (omega arith)).holds

    -- up to the test
    sums : (s' : State) (i : ℕ) → Runs p f w ASK_SPACES_ACTS (drop 3 ASK_SPACES_ACTS) (st m1 n) (Returns next) s' i → Runs p f w ASK_SPACES_ACTS ASK_SPACES_ACTS (st memory x) (Returns next) s' (suc k.count + suc (suc i))
    sums s' i rest =
        let high = has.mapped.room in
        let put = puts p (st memory n) cells 47 sum h (omega arith) (omega arith) (omega arith) (omega arith) in
        looks k next s' (suc (suc i)) (subst (λ (y : ℕ). Runs p f w ASK_SPACES_ACTS (drop 1 ASK_SPACES_ACTS) (st memory y) (Returns next) s' (suc (suc i))) (sym is)
        (passed (tested p (st memory n) comparisons.Equal (atoms.Var 1) (atoms.Num 65535) true n 65535 false (local_1 p memory n (next ∷ []) typed drawn output) refl (ne_eqb n 65535 (λ e. (omega arith))))
        (done (computes p (st memory n) (st m1 n) 47 functions.Add (atoms.Var 47) (atoms.Var 1) (cells 31) n sum (register p (st memory n) cells 47 h (omega arith) (omega arith) (omega arith)) (local_1 p memory n (next ∷ []) typed drawn output) (added p memory (cells 31) n sum (omega arith)) put.put_is) rest)))

    below : (t : Bool) → compared comparisons.Less sum 16384 ≡ t → answer_of p (st m1 n) (record { comparison = comparisons.Less; first = atoms.Var 47; second = atoms.Num 16384; answer = true }) ≡ Some t
    below t e = let high = has.mapped.room in tested p (st m1 n) comparisons.Less (atoms.Var 47) (atoms.Num 16384) true sum 16384 t (register p (st m1 n) c1 47 h1 (omega arith) (omega arith) (omega arith) ∙ ap word (same_cell cells 31 sum)) refl e

    few_more : sum < 16384 → AsksSpaces p f w memory typed output drawn x next n cells (5 * links S v + 15)
    unfolding behind_label
    few_more lt =
        let few = k.few in
        record {
          memory' = m1;
          cells' = c1;
          locals' = n ∷ next ∷ [];
          holds = h1;
          spaces = same_cell cells 31 sum ∙ sym (low_min sum lt);
          others = λ j ne. other_cell cells 31 sum j ne;
          count = suc k.count + suc (suc 2);
          few = omega arith;
          runs = sums (st m1 n) 2 (taken (below true (less_by sum 16384 (omega arith) (omega arith) lt)) refl (returns (local_2 p m1 n next [] typed drawn output)));
        }

    too_many : 16384 ≤ sum → AsksSpaces p f w memory typed output drawn x next n cells (5 * links S v + 15)
    too_many le =
        let high = has.mapped.room in
        let few = k.few in
        let put = puts p (st m1 n) c1 47 16383 h1 (omega arith) (omega arith) (omega arith) (omega arith) in
        let m2 = with_cell m1 31 16383 in
        record {
          memory' = m2;
          cells' = replaced c1 31 16383;
          locals' = n ∷ next ∷ [];
          holds = put.holds;
          spaces = same_cell c1 31 16383 ∙ sym (high_min sum le);
          others = λ j ne. other_cell c1 31 16383 j ne ∙ other_cell cells 31 sum j ne;
          count = suc k.count + suc (suc 3);
          few = omega arith;
          runs = sums (st m2 n) 3 (passed (below false (not_less_by sum 16384 (omega arith) (omega arith) le))
              (done (copies p (st m1 n) (st m2 n) 47 (atoms.Num 16383) 16383 refl put.put_is) (at_label (returns (local_2 p m2 n next [] typed drawn output)))));
        }

    counts : AsksSpaces p f w memory typed output drawn x next n cells (5 * links S v + 15)
    counts = elim (cases_lt sum 16384) [ inl lt ↦ few_more lt | inr le ↦ too_many le ]

pub spaces_work : SpacesWork
spaces_work = record {
  counts = λ p has f w some enough memory typed output drawn sh is cells h S st x next v shown n parts e few.
      let k = operands_work.number p has 1 4 (omega arith) (omega arith) memory typed output drawn sh is cells h S st x v shown in
      counts p has f w some enough memory typed output drawn cells h S x next v k n (ap number_word e) (subst FitsStory e k.fits) few;
  fails = λ p has f w some enough memory typed output drawn sh is cells h S st x next v shown none.
      no_number p has f w some enough memory typed output drawn cells h S x next v (operands_work.number p has 1 4 (omega arith) (omega arith) memory typed output drawn sh is cells h S st x v shown) none;
}
