-- The routine that takes a gathering out as a sum does so.
use Rattle.std.proofs.Common.{◌≡◌, ◌≢◌, ℕ, suc, ◌+◌, ◌*◌, ◌<◌, ◌≤◌, ⊎_elim, Bool, true, false, List, [], ◌∷◌, ◌++◌, drop, length, Option, None, Some, refl, sym, ap, ◌∙◌, subst, arith, length-append}
use Rattle.std.specs.Prelude.{◌==◌, nat_le}
use Rattle.std.specs.Option.{option_and_then}
use Rattle.std.proofs.lemmas.Bool.{eq-eqb, ne_eqb, cases_lt, le-leb, lt-leb, cond-true, cond-false}
use Rattle.dg_meaning.specs.Numbers.{in_range, plus, sum_of}
use Rattle.dg_meaning.specs.Values.{Num, Word, Object, Nil, Pair, Closure, Unknown, Value, Var, Node, Values, NoMore, More}
use Rattle.z_lang.specs.declared.act.Act.{Act}
use Rattle.z_lang.specs.declared.act.Atom.TheVariants as atoms
use Rattle.z_lang.specs.declared.act.Comparison.TheVariants as comparisons
use Rattle.z_lang.specs.declared.act.Function.TheVariants as functions
use Rattle.z_lang.specs.State.{State, Program}
use Rattle.z_lang.specs.Acts.{answer_of}
use Rattle.z_lang.specs.Runs.{ActsRun as Runs, ActsOutcome, Returns, at_label, goes, taken, passed, done, returns, behind_label}
use Rattle.dg_rt.specs.declared.gathering.TheConstants.{TAKE_SUM_ACTS}
use Rattle.dg_rt.specs.Arithmetic.{result_word, clash_of, IsNumber}
use Rattle.dg_rt.specs.Cells.{at_cell, with_cell, replaced, Holds, compared}
use Rattle.dg_rt.specs.Areas.{state}
use Rattle.dg_rt.specs.Copies.{words_of, Row}
use Rattle.dg_rt.specs.Gatherings.{rows_of, AreFormed, GatheredAt, TakesSum, TakesNone, SumWorks}
use Rattle.dg_rt.specs.Laying.{Formed}
use Rattle.dg_rt.specs.RunTime.{HasRunTime}
use Rattle.dg_rt.specs.inside.Walks.{steps}
use Rattle.dg_rt.proofs.Cells.{reads_cell, other_cell, same_cell}
use Rattle.dg_rt.proofs.Following.{word, tested, computes, copies, register, IsPut, puts}
use Rattle.dg_rt.proofs.LaySteps.{rows_back}
use Rattle.dg_rt.proofs.UnifySteps.{steps_are}
use Rattle.dg_rt.proofs.ValueBounds.{some_size, size_words}
use Rattle.dg_rt.proofs.Locals.{adds, get_1, get_2, get_3, get_4, set_1, set_2, set_3, set_4, simple_is_positive, high_is_less, less_by, not_less_by, more_by, not_more_by}

-- ## Sums

-- What is left to be added to a sum.
abbrev with_rest : ℕ → Option ℕ → Option ℕ
with_rest s None = None
with_rest s (Some n) = in_range (s + n)

with_plus : (s n : ℕ) (rest : Option ℕ) → with_rest s (plus n rest) ≡ with_rest (s + n) rest
with_plus s n None = refl
with_plus s n (Some m) = let e : s + (n + m) ≡ s + n + m = omega arith in ap in_range e

too_many : (s : ℕ) → 16383 < s → (rest : Option ℕ) → with_rest s rest ≡ None
too_many s over None = refl
too_many s over (Some n) = let no : Option ℕ = None in cond-false (nat_le (s + n) 16383) (Some (s + n)) no (lt-leb (s + n) 16383 (omega arith))

in_all : (s : ℕ) → s ≤ 16383 → with_rest s (Some 0) ≡ Some s
in_all s le = let e : s + 0 ≡ s = omega arith in let no : Option ℕ = None in ap in_range e ∙ cond-true (nat_le s 16383) (Some s) no (le-leb s 16383 le)

all_of : (rest : Option ℕ) → with_rest 0 rest ≡ option_and_then in_range rest
all_of None = refl
all_of (Some n) = let e : 0 + n ≡ n = omega arith in ap in_range e

-- ## The first word of a value

-- A number's word is less than 16,384; another value's is less than 0 or at least 16,384.
data Begins (v : Value) (x : ℕ) : Type 0 where
  is_number : (n : ℕ) (vs : Values) → v ≡ Node (Num n) vs → x ≡ n → n < 16384 → words_of v ≡ n ∷ [] → Begins v x
  is_other : ((vs : List Value) → sum_of (v ∷ vs) ≡ None) → 16384 ≤ x → x < 65536 → Begins v x

begins : (captures : ℕ → ℕ) (cells : ℕ → ℕ) (small : (k : ℕ) → cells k < 65536) (v : Value) (r : ℕ) (ys : List ℕ) → Formed captures v → Row cells r (words_of v ++ ys) → Begins v (cells r)
begins captures cells small (Var x) r ys fine row = let w = row.0 in is_other (λ vs. refl) (omega arith) (small r)
begins captures cells small (Node (Num n) NoMore) r ys fine row = is_number n NoMore refl row.0 fine.0 refl
begins captures cells small (Node (Num n) (More v vs)) r ys fine row = absurd fine.0
begins captures cells small (Node (Word n) vs) r ys fine row = let w = row.0 in is_other (λ vs. refl) (omega arith) (small r)
begins captures cells small (Node (Object n) vs) r ys fine row = let w = row.0 in is_other (λ vs. refl) (omega arith) (small r)
begins captures cells small (Node Nil vs) r ys fine row = let w = row.0 in is_other (λ vs. refl) (omega arith) (small r)
begins captures cells small (Node Pair vs) r ys fine row = let w = row.0 in is_other (λ vs. refl) (omega arith) (small r)
begins captures cells small (Node (Closure place) vs) r ys fine row = let w = row.0 in is_other (λ vs. refl) (omega arith) (small r)
begins captures cells small (Node (Unknown xs) vs) r ys fine row = let w = row.0 in is_other (λ vs. refl) (omega arith) (small r)

row_same : (c cells : ℕ → ℕ) (i : ℕ) (xs : List ℕ) → ((k : ℕ) → i ≤ k → c k ≡ cells k) → Row cells i xs → Row c i xs
row_same c cells i [] same row = tt
row_same c cells i (x ∷ xs) same row = (same i (omega arith) ∙ row.0, row_same c cells (suc i) xs (λ k le. same k (omega arith)) row.1)

-- ## The routine

module _ (p : Program) (has : HasRunTime p) (captures : ℕ → ℕ) (typed output : List ℕ) (drawn : ℕ) where
  abbrev body : List Act
  body = TAKE_SUM_ACTS

  abbrev st : List ℕ → ℕ → ℕ → ℕ → ℕ → State
  st m a b c d = state m (a ∷ b ∷ c ∷ d ∷ []) typed drawn output

  abbrev Run : List Act → State → ActsOutcome → State → ℕ → Type 0
  Run acts s o s' n = Runs p 2400 14000 body acts s o s' n

  module _ (memory : List ℕ) (cells : ℕ → ℕ) (h : Holds p.world.layout memory cells) (clash : cells 13 ≡ 1) (e : ℕ) (within : e ≤ 14315) where
    -- From a value on the sum of all is answered.
    record Sums (s : ℕ) (acts : List Act) (a c d : ℕ) (made : Option ℕ) (most : ℕ) : Type 0 where
      memory' : List ℕ
      cells' : ℕ → ℕ
      locals' : List ℕ
      holds : Holds p.world.layout memory' cells'
      clash_is : cells' 13 ≡ clash_of made
      small : IsNumber made
      others : (i : ℕ) → i ≢ 13 → cells' i ≡ cells i
      count : ℕ
      few : count ≤ most
      runs : Run acts (st memory (at_cell e) a c d) (Returns (result_word made)) (state memory' locals' typed drawn output) count

    no_sum : (s a c d : ℕ) → Sums s (drop 18 body) a c d None 1
    no_sum s a c d = record { memory' = memory; cells' = cells; locals' = at_cell e ∷ a ∷ c ∷ d ∷ []; holds = h; clash_is = clash; small = tt; others = λ i ne. refl; count = 1; few = omega arith; runs = returns refl }

    the_sum : (s a d : ℕ) → s ≤ 16383 → Sums s (drop 15 body) a s d (Some s) 2
    the_sum s a d le =
        let room = has.mapped.room in
        let put = puts p (st memory (at_cell e) a s d) cells 29 0 h (omega arith) (omega arith) (omega arith) (omega arith) in
        let m1 = with_cell memory 13 0 in
        record {
          memory' = m1;
          cells' = replaced cells 13 0;
          locals' = at_cell e ∷ a ∷ s ∷ d ∷ [];
          holds = put.holds;
          clash_is = same_cell cells 13 0;
          small = omega arith;
          others = λ i ne. other_cell cells 13 0 i ne;
          count = 2;
          few = omega arith;
          runs = done (copies p (st memory (at_cell e) a s d) (st m1 (at_cell e) a s d) 29 (atoms.Num 0) 0 refl put.put_is) (returns (get_3 p m1 (at_cell e) a s d typed drawn output));
        }

    longer : (k : ℕ) {s s' : ℕ} {acts acts' : List Act} {a c d a' c' d' : ℕ} {made made' : Option ℕ} {most most' : ℕ} → made ≡ made' → k + most ≤ most' → ((o : ActsOutcome) (z : State) (n : ℕ) → Run acts (st memory (at_cell e) a c d) o z n → Run acts' (st memory (at_cell e) a' c' d') o z (steps k n)) → Sums s acts a c d made most → Sums s' acts' a' c' d' made' most'
    longer k {s} {s'} {acts} {acts'} {a} {c} {d} {a'} {c'} {d'} {made} {made'} same le way x =
        let few = x.few in
        record {
          memory' = x.memory';
          cells' = x.cells';
          locals' = x.locals';
          holds = x.holds;
          clash_is = x.clash_is ∙ ap clash_of same;
          small = subst IsNumber same x.small;
          others = x.others;
          count = steps k x.count;
          few = omega (arith, steps_are k x.count);
          runs = subst (λ (y : Option ℕ). Run acts' (st memory (at_cell e) a' c' d') (Returns (result_word y)) (state x.memory' x.locals' typed drawn output) (steps k x.count)) same (way (Returns (result_word made)) (state x.memory' x.locals' typed drawn output) x.count x.runs);
        }

    at_end : (r c d : ℕ) (t : Bool) → (at_cell r == at_cell e) ≡ t → answer_of p (st memory (at_cell e) (at_cell r) c d) (record { comparison = comparisons.Equal; first = atoms.Var 2; second = atoms.Var 1; answer = true }) ≡ Some t
    at_end r c d t q = tested p (st memory (at_cell e) (at_cell r) c d) comparisons.Equal (atoms.Var 2) (atoms.Var 1) true (at_cell r) (at_cell e) t (get_2 p memory (at_cell e) (at_cell r) c d typed drawn output) (get_1 p memory (at_cell e) (at_cell r) c d typed drawn output) q

    less : (r c x k : ℕ) (answer t : Bool) → compared comparisons.Less x k ≡ t → answer_of p (st memory (at_cell e) (at_cell r) c x) (record { comparison = comparisons.Less; first = atoms.Var 4; second = atoms.Num k; answer = answer }) ≡ Some t
    less r c x k answer t q = tested p (st memory (at_cell e) (at_cell r) c x) comparisons.Less (atoms.Var 4) (atoms.Num k) answer x k t (get_4 p memory (at_cell e) (at_cell r) c x typed drawn output) refl q

    -- up to the tests of a value's first word
    to_tests : (r s d x : ℕ) → cells r ≡ x → r < e → (o : ActsOutcome) (z : State) (n : ℕ) → Run (drop 8 body) (st memory (at_cell e) (at_cell r) s x) o z n → Run (drop 6 body) (st memory (at_cell e) (at_cell r) s d) o z (suc (suc n))
    to_tests r s d x is lt o z n go =
        let room = has.mapped.room in
        passed (at_end r s d false (ne_eqb (at_cell r) (at_cell e) (λ (q : at_cell r ≡ at_cell e). (omega arith))))
        (done (computes p (st memory (at_cell e) (at_cell r) s d) (st memory (at_cell e) (at_cell r) s x) 4 functions.Word (atoms.Var 2) (atoms.Num 0) (at_cell r) 0 x (get_2 p memory (at_cell e) (at_cell r) s d typed drawn output) refl (reads_cell p.world.layout memory cells (at_cell r) 0 r h (omega arith) (omega arith) ∙ ap word is) (set_4 p memory (at_cell e) (at_cell r) s d x typed drawn output)) go)

    other_low : (r s d x : ℕ) (made : Option ℕ) → cells r ≡ x → r < e → 16384 ≤ x → x < 32768 → made ≡ None → (most : ℕ) → 5 ≤ most → Sums s (drop 6 body) (at_cell r) s d made most
    unfolding behind_label
    other_low r s d x made is lt le low none most enough = longer 4 (sym none) (omega arith) (λ o z n go. to_tests r s d x is lt o z (suc (suc n)) (passed (less r s x 0 true false (simple_is_positive x low)) (taken (less r s x 16384 false false (not_less_by x 16384 low (omega arith) le)) refl go))) (no_sum s (at_cell r) s x)

    other_high : (r s d x : ℕ) (made : Option ℕ) → cells r ≡ x → r < e → 32768 ≤ x → x < 65536 → made ≡ None → (most : ℕ) → 5 ≤ most → Sums s (drop 6 body) (at_cell r) s d made most
    unfolding behind_label
    other_high r s d x made is lt high small none most enough = longer 3 (sym none) (omega arith) (λ o z n go. to_tests r s d x is lt o z (suc n) (taken (less r s x 0 true true (high_is_less x 0 high small (omega arith))) refl go)) (no_sum s (at_cell r) s x)

    other_value : (r s d x : ℕ) (made : Option ℕ) → cells r ≡ x → r < e → 16384 ≤ x → x < 65536 → made ≡ None → (most : ℕ) → 5 ≤ most → Sums s (drop 6 body) (at_cell r) s d made most
    other_value r s d x made is lt le small none most enough =
        ⊎_elim (λ low. other_low r s d x made is lt le low none most enough) (λ high. other_high r s d x made is lt high small none most enough) (cases_lt x 32768)

    -- a number is added
    to_sum : (r s d n : ℕ) → cells r ≡ n → r < e → n < 16384 → s ≤ 16383 → (o : ActsOutcome) (z : State) (i : ℕ) → Run (drop 11 body) (st memory (at_cell e) (at_cell r) (s + n) n) o z i → Run (drop 6 body) (st memory (at_cell e) (at_cell r) s d) o z (suc (suc (suc (suc (suc i)))))
    to_sum r s d n is lt small le o z i go =
        to_tests r s d n is lt o z (suc (suc (suc i)))
        (passed (less r s n 0 true false (simple_is_positive n (omega arith)))
        (passed (less r s n 16384 false true (less_by n 16384 (omega arith) (omega arith) small))
        (done (computes p (st memory (at_cell e) (at_cell r) s n) (st memory (at_cell e) (at_cell r) (s + n) n) 3 functions.Add (atoms.Var 3) (atoms.Var 4) s n (s + n) (get_3 p memory (at_cell e) (at_cell r) s n typed drawn output) (get_4 p memory (at_cell e) (at_cell r) s n typed drawn output) (adds p memory s n (s + n) refl (omega arith)) (set_3 p memory (at_cell e) (at_cell r) s n (s + n) typed drawn output)) go)))

    past : (r s x : ℕ) (t : Bool) → compared comparisons.Greater s 16383 ≡ t → answer_of p (st memory (at_cell e) (at_cell r) s x) (record { comparison = comparisons.Greater; first = atoms.Var 3; second = atoms.Num 16383; answer = true }) ≡ Some t
    past r s x t q = tested p (st memory (at_cell e) (at_cell r) s x) comparisons.Greater (atoms.Var 3) (atoms.Num 16383) true s 16383 t (get_3 p memory (at_cell e) (at_cell r) s x typed drawn output) refl q

    next : (r s x : ℕ) → r < e → (o : ActsOutcome) (z : State) (i : ℕ) → Run (drop 6 body) (st memory (at_cell e) (at_cell (suc r)) s x) o z i → Run (drop 12 body) (st memory (at_cell e) (at_cell r) s x) o z (suc (suc i))
    unfolding behind_label
    next r s x lt o z i go =
        done (computes p (st memory (at_cell e) (at_cell r) s x) (st memory (at_cell e) (at_cell (suc r)) s x) 2 functions.Add (atoms.Var 2) (atoms.Num 2) (at_cell r) 2 (at_cell (suc r)) (get_2 p memory (at_cell e) (at_cell r) s x typed drawn output) refl (adds p memory (at_cell r) 2 (at_cell (suc r)) (omega arith) (omega arith)) (set_2 p memory (at_cell e) (at_cell r) s x (at_cell (suc r)) typed drawn output))
        (goes refl go)

    sum_ends : (r s d : ℕ) → r ≡ e → s ≤ 16383 → Sums s (drop 6 body) (at_cell r) s d (with_rest s (Some 0)) 5
    unfolding behind_label
    sum_ends r s d end le = longer 1 (sym (in_all s le)) (omega arith) (λ o z n go. taken (at_end r s d true (eq-eqb (at_cell r) (at_cell e) (omega arith))) refl go) (the_sum s (at_cell r) d le)

    abbrev SumsOf : List Value → ℕ → ℕ → ℕ → Type 0
    SumsOf vs r s d = Sums s (drop 6 body) (at_cell r) s d (with_rest s (sum_of vs)) (10 * length vs + 5)

    past_it : (vs : List Value) (r s d n : ℕ) (made : Option ℕ) (most : ℕ) → made ≡ with_rest (s + n) (sum_of vs) → cells r ≡ n → n < 16384 → r < e → s ≤ 16383 → 16383 < s + n → 7 ≤ most → Sums s (drop 6 body) (at_cell r) s d made most
    unfolding behind_label
    past_it vs r s d n made most same is small lt le over enough =
        longer 6 (sym (same ∙ too_many (s + n) over (sum_of vs))) (omega arith) (λ o z i q. to_sum r s d n is lt small le o z (suc i) (taken (past r (s + n) n true (more_by (s + n) 16383 (omega arith) (omega arith) over)) refl q)) (no_sum s (at_cell r) (s + n) n)

    goes_on : (vs : List Value) (r s d n : ℕ) (made : Option ℕ) (most : ℕ) → made ≡ with_rest (s + n) (sum_of vs) → cells r ≡ n → n < 16384 → r < e → s ≤ 16383 → s + n ≤ 16383 → 10 * length vs + 15 ≤ most → SumsOf vs (suc r) (s + n) n → Sums s (drop 6 body) (at_cell r) s d made most
    goes_on vs r s d n made most same is small lt le fits enough go =
        longer 8 (sym same) (omega arith) (λ o z i q. to_sum r s d n is lt small le o z (suc (suc (suc i))) (passed (past r (s + n) n false (not_more_by (s + n) 16383 (omega arith) (omega arith) fits)) (next r (s + n) n lt o z i q))) go

    by_first : (v : Value) (vs : List Value) (r s d : ℕ) → AreFormed captures (v ∷ vs) → 12315 ≤ r → e ≡ r + length (rows_of (v ∷ vs)) → Row cells r (rows_of (v ∷ vs)) → s ≤ 16383 → Begins v (cells r) → ((r' s' d' : ℕ) → 12315 ≤ r' → e ≡ r' + length (rows_of vs) → Row cells r' (rows_of vs) → s' ≤ 16383 → SumsOf vs r' s' d') → SumsOf (v ∷ vs) r s d
    by_first v vs r s d fine low end row le (is_number n ws is x_is small words) go =
        let one : length (words_of v) ≡ 1 = ap (λ (l : List ℕ). length l) words in
        let both = length-append (words_of v) (rows_of vs) in
        let same : with_rest s (sum_of (v ∷ vs)) ≡ with_rest (s + n) (sum_of vs) = ap (λ (u : Value). with_rest s (sum_of (u ∷ vs))) is ∙ with_plus s n (sum_of vs) in
        let inside : r < e = omega arith in
        let back = rows_back cells r (suc r) (words_of v) (rows_of vs) (omega arith) row in
        ⊎_elim (λ over. past_it vs r s d n (with_rest s (sum_of (v ∷ vs))) (10 * length (v ∷ vs) + 5) same x_is small inside le over (omega arith))
        (λ fits. goes_on vs r s d n (with_rest s (sum_of (v ∷ vs))) (10 * length (v ∷ vs) + 5) same x_is small inside le fits (omega arith) (go (suc r) (s + n) n (omega arith) (omega arith) back fits)) (cases_lt 16383 (s + n))
    by_first v vs r s d fine low end row le (is_other none high small) go =
        let some = size_words captures v fine.0 in
        let one = some_size v in
        let both = length-append (words_of v) (rows_of vs) in
        other_value r s d (cells r) (with_rest s (sum_of (v ∷ vs))) refl (omega arith) high small (ap (with_rest s) (none vs)) (10 * length (v ∷ vs) + 5) (omega arith)

    sums : (vs : List Value) (r s d : ℕ) → AreFormed captures vs → 12315 ≤ r → e ≡ r + length (rows_of vs) → Row cells r (rows_of vs) → s ≤ 16383 → SumsOf vs r s d
    sums [] r s d fine low end row le = sum_ends r s d (omega arith) le
    sums (v ∷ vs) r s d fine low end row le = by_first v vs r s d fine low end row le (begins captures cells h.words v r (rows_of vs) fine.0 row) (λ r' s' d' low' end' row' le'. sums vs r' s' d' fine.1 low' end' row' le')

  -- ## From its beginning

  module _ (memory : List ℕ) (cells : ℕ → ℕ) (h : Holds p.world.layout memory cells) where
    abbrev m1 : List ℕ
    m1 = with_cell memory 13 1

    abbrev c1 : ℕ → ℕ
    c1 = replaced cells 13 1

    clashed : IsPut p (st memory 0 0 0 0) cells 29 1
    clashed = let room = has.mapped.room in puts p (st memory 0 0 0 0) cells 29 1 h (omega arith) (omega arith) (omega arith) (omega arith)

    c1_else : (k : ℕ) → k ≢ 13 → c1 k ≡ cells k
    c1_else k ne = other_cell cells 13 1 k ne

    none_open : cells 29 ≡ 0 → TakesNone p body memory (0 ∷ 0 ∷ 0 ∷ 0 ∷ []) typed output drawn cells
    unfolding behind_label
    none_open none =
        let room = has.mapped.room in
        let put = clashed in
        record {
          memory' = m1;
          cells' = c1;
          locals' = 0 ∷ 0 ∷ 0 ∷ 0 ∷ [];
          holds = put.holds;
          clash = same_cell cells 13 1;
          others = c1_else;
          runs = done (copies p (st memory 0 0 0 0) (st m1 0 0 0 0) 29 (atoms.Num 1) 1 refl put.put_is)
              (taken (tested p (st m1 0 0 0 0) comparisons.Equal (atoms.Var 45) (atoms.Num 0) true (c1 29) 0 true (register p (st m1 0 0 0 0) c1 45 put.holds (omega arith) (omega arith) (omega arith)) refl (eq-eqb (c1 29) 0 (c1_else 29 (λ q. (omega arith)) ∙ none))) refl (returns refl));
        }

    takes : (j around : ℕ) (vs : List Value) → GatheredAt cells j around vs → AreFormed captures vs → TakesSum p memory typed output drawn cells around vs
    takes j around vs g fine =
        let room = has.mapped.room in
        let low = g.low in
        let high = g.high in
        let named = g.named in
        let e = j + 2 + length (rows_of vs) in
        let put = clashed in
        let name : c1 29 ≡ at_cell j = c1_else 29 (λ q. (omega arith)) ∙ named in
        let small : around < 65536 = subst (λ (x : ℕ). x < 65536) g.before (h.words j) in
        let put2 = puts p (st m1 (at_cell e) (at_cell (j + 2)) 0 0) c1 45 around put.holds (omega arith) (omega arith) (omega arith) small in
        let m2 = with_cell m1 29 around in
        let c2 = replaced c1 29 around in
        let c2_else : (k : ℕ) → k ≢ 13 → k ≢ 29 → c2 k ≡ cells k = λ k n13 n29. other_cell c1 29 around k n29 ∙ c1_else k n13 in
        let s = sums m2 c2 put2.holds (other_cell c1 29 around 13 (λ q. (omega arith)) ∙ same_cell cells 13 1) e (omega arith) vs (j + 2) 0 0 fine (omega arith) refl (row_same c2 cells (j + 2) (rows_of vs) (λ k le. c2_else k (λ q. (omega arith)) (λ q. (omega arith))) g.values) (omega arith) in
        let few = s.few in
        let made = all_of (sum_of vs) in
        record {
          memory' = s.memory';
          cells' = s.cells';
          locals' = s.locals';
          holds = s.holds;
          clash = s.clash_is ∙ ap clash_of made;
          small = subst IsNumber made s.small;
          named = s.others 29 (λ q. (omega arith)) ∙ same_cell c1 29 around;
          others = λ i n13 n29. s.others i n13 ∙ c2_else i n13 n29;
          count = suc (suc (suc (suc (suc s.count))));
          few = omega arith;
          runs = subst (λ (x : ℕ). Run body (st memory 0 0 0 0) (Returns x) (state s.memory' s.locals' typed drawn output) (suc (suc (suc (suc (suc s.count)))))) (ap result_word made)
              (done (copies p (st memory 0 0 0 0) (st m1 0 0 0 0) 29 (atoms.Num 1) 1 refl put.put_is)
              (passed (tested p (st m1 0 0 0 0) comparisons.Equal (atoms.Var 45) (atoms.Num 0) true (c1 29) 0 false (register p (st m1 0 0 0 0) c1 45 put.holds (omega arith) (omega arith) (omega arith)) refl (ne_eqb (c1 29) 0 (λ (q : c1 29 ≡ 0). (omega arith))))
              (done (computes p (st m1 0 0 0 0) (st m1 (at_cell e) 0 0 0) 1 functions.Word (atoms.Var 45) (atoms.Num 1) (c1 29) 1 (at_cell e) (register p (st m1 0 0 0 0) c1 45 put.holds (omega arith) (omega arith) (omega arith)) refl (reads_cell p.world.layout m1 c1 (c1 29) 1 (j + 1) put.holds (omega arith) (omega arith) ∙ ap word (c1_else (j + 1) (λ q. (omega arith)) ∙ g.end)) (set_1 p m1 0 0 0 0 (at_cell e) typed drawn output))
              (done (computes p (st m1 (at_cell e) 0 0 0) (st m1 (at_cell e) (at_cell (j + 2)) 0 0) 2 functions.Add (atoms.Var 45) (atoms.Num 4) (c1 29) 4 (at_cell (j + 2)) (register p (st m1 (at_cell e) 0 0 0) c1 45 put.holds (omega arith) (omega arith) (omega arith)) refl (adds p m1 (c1 29) 4 (at_cell (j + 2)) (omega arith) (omega arith)) (set_2 p m1 (at_cell e) 0 0 0 (at_cell (j + 2)) typed drawn output))
              (done (computes p (st m1 (at_cell e) (at_cell (j + 2)) 0 0) (st m2 (at_cell e) (at_cell (j + 2)) 0 0) 45 functions.Word (atoms.Var 45) (atoms.Num 0) (c1 29) 0 around (register p (st m1 (at_cell e) (at_cell (j + 2)) 0 0) c1 45 put.holds (omega arith) (omega arith) (omega arith)) refl (reads_cell p.world.layout m1 c1 (c1 29) 0 j put.holds (omega arith) (omega arith) ∙ ap word (c1_else j (λ q. (omega arith)) ∙ g.before)) put2.put_is)
              (at_label s.runs))))));
        }

pub sum_works : SumWorks
sum_works = record {
  takes = λ p has captures typed output drawn memory cells h j around vs g fine. takes p has captures typed output drawn memory cells h j around vs g fine;
  none = λ p has typed output drawn memory cells h none. none_open p has (λ k. 0) typed output drawn memory cells h none;
}
