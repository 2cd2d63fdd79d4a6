-- The routines that make a number of two values.
use Rattle.std.proofs.Common.{◌≡◌, ◌≢◌, ℕ, zero, suc, ◌+◌, ◌-◌, ◌*◌, ◌/◌, ◌%◌, ◌<◌, ◌≤◌, Bool, true, false, inl, inr, List, [], ◌∷◌, drop, Option, Some, None, cond, refl, sym, ap, ◌∙◌, subst, arith}
use Rattle.std.specs.Prelude.{eqb, nat_lt, nat_le}
use Rattle.std.proofs.Math.Nat.{div-le_self, le-div_iff_mul-le}
use Rattle.std.proofs.lemmas.Bool.{cases_lt, lt-ltb, le-ltb, le-leb, lt-leb, ne_eqb}
use Rattle.dg_base.specs.declared.program.ArithOp.TheVariants.{Plus, Minus, Times, Divide, Modulo}
use Rattle.dg_meaning.specs.Values.{Num, Value, Node, Values}
use Rattle.dg_meaning.specs.Substitutions.{Substitution, walk, links}
use Rattle.dg_meaning.specs.Numbers.{of_numbers, calculated, thrown}
use Rattle.z_model.specs.Run.{word_at, next_drawn}
use Rattle.z_lang.specs.declared.act.Act.{Act}
use Rattle.z_lang.specs.declared.act.Act.TheVariants as acts
use Rattle.z_lang.specs.declared.act.Atom.{Atom}
use Rattle.z_lang.specs.declared.act.Atom.TheVariants as atoms
use Rattle.z_lang.specs.declared.act.Comparison.TheVariants as comparisons
use Rattle.z_lang.specs.declared.act.Function.TheVariants as functions
use Rattle.z_lang.specs.declared.act.Test.{Test}
use Rattle.z_lang.specs.State.{State, Program, value, put}
use Rattle.z_lang.specs.Acts.{answer_of, computed, does, random_drawn}
use Rattle.z_lang.specs.Runs.{ActsRun as Runs, ActsOutcome as Outcome, Returns, at_label, done, taken, passed, returns, behind_label}
use Rattle.dg_rt.specs.declared.arithmetic.TheConstants.{PLUS_ACTS, MINUS_ACTS, TIMES_ACTS, DIVIDE_ACTS, MODULO_ACTS, THROW_ACTS}
use Rattle.dg_rt.specs.Cells.{compared, with_cell, replaced, Holds}
use Rattle.dg_rt.specs.Areas.{IsMapped, state}
use Rattle.dg_rt.specs.Shapes.{Shape, IsShape, Shows, Stands}
use Rattle.dg_rt.specs.RunTime.{HasRunTime}
use Rattle.dg_rt.specs.Operands.{no_value, number_word}
use Rattle.dg_rt.specs.Arithmetic.{result_word, clash_of, IsNumber, Makes, MakeOf, ArithWorks, drawn_behind, ThrowWorks}
use Rattle.dg_rt.proofs.Cells.{other_cell, same_cell}
use Rattle.dg_rt.proofs.CaptureSteps.{divides, leaves}
use Rattle.dg_rt.proofs.Following.{word, some_state, tested, computes, copies, IsPut, puts, local_1, local_2, local_3, put_1, put_2, put_3}
use Rattle.dg_rt.proofs.NoNumbers.{Kind, is_number, is_none, kind_of}
use Rattle.dg_rt.proofs.Locals.{less_by, not_less_by, more_by, not_more_by, high_is_less, adds, subtracts}
use Rattle.dg_rt.proofs.TwoNumbers.{both_first, both_told}

abbrev some : ℕ → Option ℕ
some n = Some n

abbrev nothing : Option ℕ
nothing = None

small_word : (q : ℕ) → q < 65536 → q % 65536 ≡ q
small_word q lt = omega arith

multiplies : (p : Program) (memory : List ℕ) (x y : ℕ) → x * y ≤ 16383 → computed p.world.layout memory functions.Mul x y ≡ word (x * y)
unfolding computed
multiplies p memory x y le = ap word (small_word (x * y) (omega arith))

pub draws : (p : Program) (s s1 : State) (v : ℕ) (a : Atom) (r : ℕ) → value p s a ≡ word r → 0 < r → r ≤ 32767 → put p v (1 + word_at p.world s.drawn % r) s ≡ some_state s1 → does p (acts.Random v a) s ≡ some_state (record s1 { drawn = next_drawn p.world s.drawn })
unfolding random_drawn
draws p s s1 v a r e some few is = rw (e, ne_eqb r 0 (λ (q : r ≡ 0). (omega arith)), le-ltb 32767 r few, is) refl

-- ## Behind both numbers

-- What a routine ends with where no number is made.
abbrev the_end : List Act
the_end = acts.Return (atoms.Num 65535) ∷ []

-- The register of clashes says 1, and it is tested that both are numbers.
abbrev both_tested : List Act → List Act
both_tested rest =
    acts.Copy 29 (atoms.Num 1)
    ∷ acts.When (record { comparison = comparisons.Less; first = atoms.Var 1; second = atoms.Num 0; answer = true }) 0
    ∷ acts.When (record { comparison = comparisons.Less; first = atoms.Var 2; second = atoms.Num 0; answer = true }) 0 ∷ rest

module _ (p : Program) (map : IsMapped p) (f w : ℕ) (memory typed output : List ℕ) (cells : ℕ → ℕ) (h : Holds p.world.layout memory cells) where
  abbrev memory1 : List ℕ
  memory1 = with_cell memory 13 1

  abbrev c1 : ℕ → ℕ
  c1 = replaced cells 13 1

  abbrev before : ℕ → ℕ → ℕ → ℕ → State
  before d a b c = state memory (a ∷ b ∷ c ∷ []) typed d output

  -- behind the register of clashes
  abbrev at : ℕ → ℕ → ℕ → ℕ → State
  at d a b c = state memory1 (a ∷ b ∷ c ∷ []) typed d output

  clashes : (d a b c : ℕ) → IsPut p (before d a b c) cells 29 1
  clashes d a b c = let high = map.room in puts p (before d a b c) cells 29 1 h (omega arith) (omega arith) (omega arith) (omega arith)

  -- A number is made, or none, from a state on.
  record Ends (body more : List Act) (start : State) (d : ℕ) (made : Option ℕ) (most : ℕ) : Type 0 where
    memory' : List ℕ
    cells' : ℕ → ℕ
    holds : Holds p.world.layout memory' cells'
    clash : cells' 13 ≡ clash_of made
    others : (k : ℕ) → k ≢ 13 → cells' k ≡ cells k
    small : IsNumber made
    locals' : List ℕ
    count : ℕ
    few : count ≤ most
    runs : Runs p f w body more start (Returns (result_word made)) (state memory' locals' typed d output) count

  within : {body more : List Act} {s : State} {d : ℕ} {made : Option ℕ} (most all : ℕ) → most ≤ all → Ends body more s d made most → Ends body more s d made all
  within most all le e = let few = e.few in record { memory' = e.memory'; cells' = e.cells'; holds = e.holds; clash = e.clash; others = e.others; small = e.small; locals' = e.locals'; count = e.count; few = omega arith; runs = e.runs }

  -- one act more in front
  stepped : {body rest front : List Act} {s0 s1 : State} {d : ℕ} {made : Option ℕ} {most : ℕ} → Ends body rest s1 d made most → ((o : Outcome) (s' : State) (n : ℕ) → Runs p f w body rest s1 o s' n → Runs p f w body front s0 o s' (suc n)) → Ends body front s0 d made (suc most)
  stepped {made = made} e step =
      let few = e.few in
      record { memory' = e.memory'; cells' = e.cells'; holds = e.holds; clash = e.clash; others = e.others; small = e.small; locals' = e.locals'; count = suc e.count; few = omega arith; runs = step (Returns (result_word made)) _ e.count e.runs }

  fails : (body rest : List Act) (test : Test) (d a b c most : ℕ) → 2 ≤ most → behind_label 0 body ≡ Some the_end → answer_of p (at d a b c) test ≡ Some test.answer → Ends body (acts.When test 0 ∷ rest) (at d a b c) d nothing most
  fails body rest test d a b c most le there e = record {
    memory' = memory1;
    cells' = c1;
    holds = (clashes d a b c).holds;
    clash = same_cell cells 13 1;
    others = λ k ne. other_cell cells 13 1 k ne;
    small = tt;
    locals' = a ∷ b ∷ c ∷ [];
    count = 2;
    few = le;
    runs = taken e there (returns refl);
  }

  succeeds : (body more : List Act) (d a b c most : ℕ) → 2 ≤ most → a < 16384 → Ends body (acts.Copy 29 (atoms.Num 0) ∷ acts.Return (atoms.Var 1) ∷ more) (at d a b c) d (some a) most
  succeeds body more d a b c most le lt =
      let high = map.room in
      let put_it = puts p (at d a b c) c1 29 0 (clashes d a b c).holds (omega arith) (omega arith) (omega arith) (omega arith) in
      record {
        memory' = with_cell memory1 13 0;
        cells' = replaced c1 13 0;
        holds = put_it.holds;
        clash = same_cell c1 13 0;
        others = λ k ne. other_cell c1 13 0 k ne ∙ other_cell cells 13 1 k ne;
        small = lt;
        locals' = a ∷ b ∷ c ∷ [];
        count = 2;
        few = le;
        runs = done (copies p (at d a b c) (state (with_cell memory1 13 0) (a ∷ b ∷ c ∷ []) typed d output) 29 (atoms.Num 0) 0 refl put_it.put_is)
            (returns (local_1 p (with_cell memory1 13 0) a (b ∷ c ∷ []) typed d output));
      }

  first_less : (d a b c : ℕ) (t : Bool) → compared comparisons.Less a 0 ≡ t → answer_of p (at d a b c) (record { comparison = comparisons.Less; first = atoms.Var 1; second = atoms.Num 0; answer = true }) ≡ Some t
  first_less d a b c t e = tested p (at d a b c) comparisons.Less (atoms.Var 1) (atoms.Num 0) true a 0 t (local_1 p memory1 a (b ∷ c ∷ []) typed d output) refl e

  second_less : (d a b c : ℕ) (t : Bool) → compared comparisons.Less b 0 ≡ t → answer_of p (at d a b c) (record { comparison = comparisons.Less; first = atoms.Var 2; second = atoms.Num 0; answer = true }) ≡ Some t
  second_less d a b c t e = tested p (at d a b c) comparisons.Less (atoms.Var 2) (atoms.Num 0) true b 0 t (local_2 p memory1 a b (c ∷ []) typed d output) refl e

  nothing_less : compared comparisons.Less 65535 0 ≡ true
  nothing_less = high_is_less 65535 0 (omega arith) (omega arith) (omega arith)

  number_not_less : (n : ℕ) → n < 16384 → compared comparisons.Less n 0 ≡ false
  number_not_less n lt = not_less_by n 0 (omega arith) (omega arith) (omega arith)

  -- By what both values are.
  module _ (body rest : List Act) (d : ℕ) (g : ℕ → ℕ → Option ℕ) (by : Option ℕ → ℕ) (none_by : by None ≡ d) (there : behind_label 0 body ≡ Some the_end) (numbers : (m n : ℕ) → m < 16384 → n < 16384 → Ends body rest (at d m n 0) (by (g m n)) (g m n) 10) where
    abbrev Made : ℕ → ℕ → Option ℕ → Type 0
    Made a b made = Ends body (both_tested rest) (before d a b 0) (by made) made 13

    copied : (a b : ℕ) (made : Option ℕ) (more : List Act) → Ends body more (at d a b 0) (by made) made 12 → Ends body (acts.Copy 29 (atoms.Num 1) ∷ more) (before d a b 0) (by made) made 13
    copied a b made more e = stepped e (λ o s' n r. done (copies p (before d a b 0) (at d a b 0) 29 (atoms.Num 1) 1 refl (clashes d a b 0).put_is) r)

    abbrev second : List Act
    second = acts.When (record { comparison = comparisons.Less; first = atoms.Var 2; second = atoms.Num 0; answer = true }) 0 ∷ rest

    abbrev first : List Act
    first = acts.When (record { comparison = comparisons.Less; first = atoms.Var 1; second = atoms.Num 0; answer = true }) 0 ∷ second

    none_first : (b : ℕ) → Made no_value b None
    none_first b =
        copied no_value b None first (subst (λ (q : ℕ). Ends body first (at d no_value b 0) q nothing 12) (sym none_by)
        (fails body second (record { comparison = comparisons.Less; first = atoms.Var 1; second = atoms.Num 0; answer = true }) d no_value b 0 12 (omega arith) there (first_less d no_value b 0 true nothing_less)))

    tested_first : (m b : ℕ) (made : Option ℕ) → m < 16384 → Ends body second (at d m b 0) (by made) made 11 → Made m b made
    tested_first m b made lt e = copied m b made first (stepped e (λ o s' n r. passed (first_less d m b 0 false (number_not_less m lt)) r))

    none_second : (m : ℕ) → m < 16384 → Made m no_value None
    none_second m lt =
        tested_first m no_value None lt (subst (λ (q : ℕ). Ends body second (at d m no_value 0) q nothing 11) (sym none_by)
        (fails body rest (record { comparison = comparisons.Less; first = atoms.Var 2; second = atoms.Num 0; answer = true }) d m no_value 0 11 (omega arith) there (second_less d m no_value 0 true nothing_less)))

    two_numbers : (m n : ℕ) → m < 16384 → n < 16384 → Made m n (g m n)
    two_numbers m n a b = tested_first m n (g m n) a (stepped (numbers m n a b) (λ o s' k r. passed (second_less d m n 0 false (number_not_less n b)) r))

    first_number : (m : ℕ) (ms : Values) (u : Value) → m < 16384 → Kind u → Made m (number_word u) (of_numbers g (Node (Num m) ms) u)
    first_number m ms u lt (is_number n ns small) = two_numbers m n lt small
    first_number m ms u lt (is_none none) = rw (none.word, none.right g m ms) (none_second m lt)

    by_kinds : (v u : Value) → Kind v → Kind u → Made (number_word v) (number_word u) (of_numbers g v u)
    by_kinds v u (is_number m ms lt) k = first_number m ms u lt k
    by_kinds v u (is_none none) k = rw (none.word, none.left g u) (none_first (number_word u))

  -- ## Two numbers

  one : (d a b c : ℕ) → value p (at d a b c) (atoms.Var 1) ≡ word a
  one d a b c = local_1 p memory1 a (b ∷ c ∷ []) typed d output

  two : (d a b c : ℕ) → value p (at d a b c) (atoms.Var 2) ≡ word b
  two d a b c = local_2 p memory1 a b (c ∷ []) typed d output

  three : (d a b c : ℕ) → value p (at d a b c) (atoms.Var 3) ≡ word c
  three d a b c = local_3 p memory1 a b c [] typed d output

  becomes_one : (d a b c x : ℕ) → put p 1 x (at d a b c) ≡ some_state (at d x b c)
  becomes_one d a b c x = put_1 p memory1 a x (b ∷ c ∷ []) typed d output

  becomes_two : (d a b c x : ℕ) → put p 2 x (at d a b c) ≡ some_state (at d a x c)
  becomes_two d a b c x = put_2 p memory1 a b x (c ∷ []) typed d output

  becomes_three : (d a b c x : ℕ) → put p 3 x (at d a b c) ≡ some_state (at d a b x)
  becomes_three d a b c x = put_3 p memory1 a b c x [] typed d output

  -- What comes where a test of a number holds or doesn't.
  given : (body more : List Act) (start : State) (d most : ℕ) (b t : Bool) (x y : Option ℕ) → b ≡ t → Ends body more start d (cond t x y) most → Ends body more start d (cond b x y) most
  given body more start d most b t x y e h = rw e h

  -- ---- the sum

  plus_added : (d m n : ℕ) (made : Option ℕ) → m < 16384 → n < 16384 → Ends PLUS_ACTS (drop 6 PLUS_ACTS) (at d (m + n) n 0) d made 7 → Ends PLUS_ACTS (drop 5 PLUS_ACTS) (at d m n 0) d made 8
  plus_added d m n made a b e = stepped e (λ o s' k r. done (computes p (at d m n 0) (at d (m + n) n 0) 1 functions.Add (atoms.Var 1) (atoms.Var 2) m n (m + n) (one d m n 0) (two d m n 0) (adds p memory1 m n (m + n) refl (omega arith)) (becomes_one d m n 0 (m + n))) r)

  plus_past : (d n q : ℕ) (t : Bool) → compared comparisons.Greater q 16383 ≡ t → answer_of p (at d q n 0) (record { comparison = comparisons.Greater; first = atoms.Var 1; second = atoms.Num 16383; answer = true }) ≡ Some t
  plus_past d n q t e = tested p (at d q n 0) comparisons.Greater (atoms.Var 1) (atoms.Num 16383) true q 16383 t (one d q n 0) refl e

  plus_ends : (d m n : ℕ) → m < 16384 → n < 16384 → Ends PLUS_ACTS (drop 5 PLUS_ACTS) (at d m n 0) d (calculated Plus m n) 8
  unfolding behind_label
  plus_ends d m n a b = elim (cases_lt 16383 (m + n)) [
    | inl over ↦ given PLUS_ACTS (drop 5 PLUS_ACTS) (at d m n 0) d 8 (nat_le (m + n) 16383) false (some (m + n)) nothing (lt-leb (m + n) 16383 over)
        (plus_added d m n nothing a b (fails PLUS_ACTS (drop 7 PLUS_ACTS) (record { comparison = comparisons.Greater; first = atoms.Var 1; second = atoms.Num 16383; answer = true }) d (m + n) n 0 7 (omega arith) refl (plus_past d n (m + n) true (more_by (m + n) 16383 (omega arith) (omega arith) over))))
    | inr le ↦ given PLUS_ACTS (drop 5 PLUS_ACTS) (at d m n 0) d 8 (nat_le (m + n) 16383) true (some (m + n)) nothing (le-leb (m + n) 16383 le)
        (plus_added d m n (some (m + n)) a b (stepped (succeeds PLUS_ACTS (drop 9 PLUS_ACTS) d (m + n) n 0 6 (omega arith) (omega arith)) (λ o s' k r. passed (plus_past d n (m + n) false (not_more_by (m + n) 16383 (omega arith) (omega arith) le)) r)))
  ]

  -- ---- the difference

  less : (d a b : ℕ) (t : Bool) → compared comparisons.Less a b ≡ t → answer_of p (at d a b 0) (record { comparison = comparisons.Less; first = atoms.Var 1; second = atoms.Var 2; answer = true }) ≡ Some t
  less d a b t e = tested p (at d a b 0) comparisons.Less (atoms.Var 1) (atoms.Var 2) true a b t (one d a b 0) (two d a b 0) e

  minus_ends : (d m n : ℕ) → m < 16384 → n < 16384 → Ends MINUS_ACTS (drop 5 MINUS_ACTS) (at d m n 0) d (calculated Minus m n) 8
  unfolding behind_label
  minus_ends d m n a b = elim (cases_lt m n) [
    | inl lt ↦ given MINUS_ACTS (drop 5 MINUS_ACTS) (at d m n 0) d 8 (nat_lt m n) true nothing (some (m - n)) (lt-ltb m n lt)
        (fails MINUS_ACTS (drop 6 MINUS_ACTS) (record { comparison = comparisons.Less; first = atoms.Var 1; second = atoms.Var 2; answer = true }) d m n 0 8 (omega arith) refl (less d m n true (less_by m n (omega arith) (omega arith) lt)))
    | inr ge ↦ given MINUS_ACTS (drop 5 MINUS_ACTS) (at d m n 0) d 8 (nat_lt m n) false nothing (some (m - n)) (le-ltb m n ge)
        (stepped (stepped (succeeds MINUS_ACTS (drop 9 MINUS_ACTS) d (m - n) n 0 6 (omega arith) (omega arith))
        (λ o s' k r. done (computes p (at d m n 0) (at d (m - n) n 0) 1 functions.Sub (atoms.Var 1) (atoms.Var 2) m n (m - n) (one d m n 0) (two d m n 0) (subtracts p memory1 m n (m - n) (omega arith) (omega arith)) (becomes_one d m n 0 (m - n))) r))
        (λ o s' k r. passed (less d m n false (not_less_by m n (omega arith) (omega arith) ge)) r))
  ]

  -- ---- the product

  is_none_second : (d m n : ℕ) (t : Bool) → eqb n 0 ≡ t → answer_of p (at d m n 0) (record { comparison = comparisons.Equal; first = atoms.Var 2; second = atoms.Num 0; answer = true }) ≡ Some t
  is_none_second d m n t e = tested p (at d m n 0) comparisons.Equal (atoms.Var 2) (atoms.Num 0) true n 0 t (two d m n 0) refl e

  -- a product that is no greater than the most
  times_made : (d m n c most : ℕ) → 2 ≤ most → m * n ≤ 16383 → Ends TIMES_ACTS (drop 9 TIMES_ACTS) (at d m n c) d (some (m * n)) (suc most)
  times_made d m n c most le few = stepped (succeeds TIMES_ACTS (drop 12 TIMES_ACTS) d (m * n) n c most le (omega arith)) (λ o s' k r. done (computes p (at d m n c) (at d (m * n) n c) 1 functions.Mul (atoms.Var 1) (atoms.Var 2) m n (m * n) (one d m n c) (two d m n c) (multiplies p memory1 m n few) (becomes_one d m n c (m * n))) r)

  past_quotient : (d m n q : ℕ) (t : Bool) → compared comparisons.Greater m q ≡ t → answer_of p (at d m n q) (record { comparison = comparisons.Greater; first = atoms.Var 1; second = atoms.Var 3; answer = true }) ≡ Some t
  past_quotient d m n q t e = tested p (at d m n q) comparisons.Greater (atoms.Var 1) (atoms.Var 3) true m q t (one d m n q) (three d m n q) e

  -- up to the test of the quotient
  times_tested : (d m n : ℕ) (made : Option ℕ) → 0 < n → n < 16384 → Ends TIMES_ACTS (drop 7 TIMES_ACTS) (at d m n (16383 / n)) d made 6 → Ends TIMES_ACTS (drop 5 TIMES_ACTS) (at d m n 0) d made 8
  times_tested d m n made some_n lt e =
      stepped (stepped e (λ o s' k r. done (computes p (at d m n 0) (at d m n (16383 / n)) 3 functions.Div (atoms.Num 16383) (atoms.Var 2) 16383 n (16383 / n) refl (two d m n 0) (divides p memory1 16383 n (omega arith) some_n (omega arith)) (becomes_three d m n 0 (16383 / n))) r))
      (λ o s' k r. passed (is_none_second d m n false (ne_eqb n 0 (λ (q : n ≡ 0). (omega arith)))) r)

  times_some : (d m n : ℕ) → m < 16384 → 0 < n → n < 16384 → Ends TIMES_ACTS (drop 5 TIMES_ACTS) (at d m n 0) d (calculated Times m n) 8
  unfolding behind_label
  times_some d m n a some_n b =
      let q = 16383 / n in
      let few : q ≤ 16383 = div-le_self 16383 n in
      let both = le-div_iff_mul-le {k = n} {x = m} {y = 16383} some_n in
      elim (cases_lt 16383 (m * n)) [
        | inl over ↦
            let past : q < m = elim (cases_lt q m) [ inl lt ↦ lt | inr ge ↦ absurd (let le = both.0 ge in omega arith) ] in
            given TIMES_ACTS (drop 5 TIMES_ACTS) (at d m n 0) d 8 (nat_le (m * n) 16383) false (some (m * n)) nothing (lt-leb (m * n) 16383 over)
            (times_tested d m n nothing some_n b (fails TIMES_ACTS (drop 8 TIMES_ACTS) (record { comparison = comparisons.Greater; first = atoms.Var 1; second = atoms.Var 3; answer = true }) d m n q 6 (omega arith) refl (past_quotient d m n q true (more_by m q (omega arith) (omega arith) past))))
        | inr le ↦
            let within : m ≤ q = both.1 le in
            given TIMES_ACTS (drop 5 TIMES_ACTS) (at d m n 0) d 8 (nat_le (m * n) 16383) true (some (m * n)) nothing (le-leb (m * n) 16383 le)
            (times_tested d m n (some (m * n)) some_n b (stepped (times_made d m n q 4 (omega arith) le) (λ o s' k r. passed (past_quotient d m n q false (not_more_by m q (omega arith) (omega arith) within)) (at_label r))))
      ]

  times_ends : (d m n : ℕ) → m < 16384 → n < 16384 → Ends TIMES_ACTS (drop 5 TIMES_ACTS) (at d m n 0) d (calculated Times m n) 8
  unfolding behind_label
  times_ends d m zero a b =
      let none : m * 0 ≤ 16383 = omega arith in
      given TIMES_ACTS (drop 5 TIMES_ACTS) (at d m 0 0) d 8 (nat_le (m * 0) 16383) true (some (m * 0)) nothing (le-leb (m * 0) 16383 none)
      (stepped (times_made d m 0 0 6 (omega arith) none) (λ o s' k r. taken (is_none_second d m 0 true refl) refl r))
  times_ends d m (suc n) a b = times_some d m (suc n) a (omega arith) b

  -- ---- the quotient

  divide_ends : (d m n : ℕ) → m < 16384 → n < 16384 → Ends DIVIDE_ACTS (drop 5 DIVIDE_ACTS) (at d m n 0) d (calculated Divide m n) 8
  unfolding behind_label
  divide_ends d m zero a b = fails DIVIDE_ACTS (drop 6 DIVIDE_ACTS) (record { comparison = comparisons.Equal; first = atoms.Var 2; second = atoms.Num 0; answer = true }) d m 0 0 8 (omega arith) refl (is_none_second d m 0 true refl)
  divide_ends d m (suc n) a b =
      let q = m / suc n in
      let few : q ≤ m = div-le_self m (suc n) in
      given DIVIDE_ACTS (drop 5 DIVIDE_ACTS) (at d m (suc n) 0) d 8 (eqb (suc n) 0) false nothing (some q) (ne_eqb (suc n) 0 (λ (e : suc n ≡ 0). (omega arith)))
      (stepped (stepped (succeeds DIVIDE_ACTS (drop 9 DIVIDE_ACTS) d q (suc n) 0 6 (omega arith) (omega arith))
      (λ o s' k r. done (computes p (at d m (suc n) 0) (at d q (suc n) 0) 1 functions.Div (atoms.Var 1) (atoms.Var 2) m (suc n) q (one d m (suc n) 0) (two d m (suc n) 0) (divides p memory1 m (suc n) (omega arith) (omega arith) (omega arith)) (becomes_one d m (suc n) 0 q)) r))
      (λ o s' k r. passed (is_none_second d m (suc n) false (ne_eqb (suc n) 0 (λ (e : suc n ≡ 0). (omega arith)))) r))

  is_some_second : (d m n : ℕ) (t : Bool) → compared comparisons.Greater n 0 ≡ t → answer_of p (at d m n 0) (record { comparison = comparisons.Greater; first = atoms.Var 2; second = atoms.Num 0; answer = false }) ≡ Some t
  is_some_second d m n t e = tested p (at d m n 0) comparisons.Greater (atoms.Var 2) (atoms.Num 0) false n 0 t (two d m n 0) refl e

  modulo_ends : (d m n : ℕ) → m < 16384 → n < 16384 → Ends MODULO_ACTS (drop 5 MODULO_ACTS) (at d m n 0) d (calculated Modulo m n) 8
  unfolding behind_label
  modulo_ends d m zero a b = fails MODULO_ACTS (drop 6 MODULO_ACTS) (record { comparison = comparisons.Greater; first = atoms.Var 2; second = atoms.Num 0; answer = false }) d m 0 0 8 (omega arith) refl (is_some_second d m 0 false (not_more_by 0 0 (omega arith) (omega arith) (omega arith)))
  modulo_ends d m (suc n) a b =
      let q = m % suc n in
      let few : q < suc n = omega arith in
      given MODULO_ACTS (drop 5 MODULO_ACTS) (at d m (suc n) 0) d 8 (eqb (suc n) 0) false nothing (some q) (ne_eqb (suc n) 0 (λ (e : suc n ≡ 0). (omega arith)))
      (stepped (stepped (succeeds MODULO_ACTS (drop 9 MODULO_ACTS) d q (suc n) 0 6 (omega arith) (omega arith))
      (λ o s' k r. done (computes p (at d m (suc n) 0) (at d q (suc n) 0) 1 functions.Mod (atoms.Var 1) (atoms.Var 2) m (suc n) q (one d m (suc n) 0) (two d m (suc n) 0) (leaves p memory1 m (suc n) (omega arith) (omega arith) (omega arith)) (becomes_one d m (suc n) 0 q)) r))
      (λ o s' k r. passed (is_some_second d m (suc n) true (more_by (suc n) 0 (omega arith) (omega arith) (omega arith))) r))

  -- ---- a throw

  second_less_first : (d a b : ℕ) (t : Bool) → compared comparisons.Less b a ≡ t → answer_of p (at d a b 0) (record { comparison = comparisons.Less; first = atoms.Var 2; second = atoms.Var 1; answer = true }) ≡ Some t
  second_less_first d a b t e = tested p (at d a b 0) comparisons.Less (atoms.Var 2) (atoms.Var 1) true b a t (two d a b 0) (one d a b 0) e

  -- a number is drawn and put on top of the first
  throw_drawn : (d m n r w' : ℕ) → m < 16384 → n < 16384 → m ≤ n → r ≡ n - m + 1 → w' ≡ word_at p.world d % r → Ends THROW_ACTS (drop 6 THROW_ACTS) (at d m n 0) (next_drawn p.world d) (some (m + w')) 9
  throw_drawn d m n r w' a b le is drawn_is =
      let d' = next_drawn p.world d in
      let few : w' < r = omega arith in
      let up : 1 + w' ≡ 1 + word_at p.world d % r = omega arith in
      stepped (stepped (stepped (stepped (stepped (succeeds THROW_ACTS (drop 13 THROW_ACTS) d' (m + w') w' 0 4 (omega arith) (omega arith))
      (λ o s' k go. done (computes p (at d' m w' 0) (at d' (m + w') w' 0) 1 functions.Add (atoms.Var 1) (atoms.Var 2) m w' (m + w') (one d' m w' 0) (two d' m w' 0) (adds p memory1 m w' (m + w') refl (omega arith)) (becomes_one d' m w' 0 (m + w'))) go))
      (λ o s' k go. done (computes p (at d' m (1 + w') 0) (at d' m w' 0) 2 functions.Sub (atoms.Var 2) (atoms.Num 1) (1 + w') 1 w' (two d' m (1 + w') 0) refl (subtracts p memory1 (1 + w') 1 w' refl (omega arith)) (becomes_two d' m (1 + w') 0 w')) go))
      (λ o s' k go. done (draws p (at d m r 0) (at d m (1 + w') 0) 2 (atoms.Var 2) r (two d m r 0) (omega arith) (omega arith) (subst (λ (x : ℕ). put p 2 x (at d m r 0) ≡ some_state (at d m (1 + w') 0)) up (becomes_two d m r 0 (1 + w')))) go))
      (λ o s' k go. done (computes p (at d m (n - m) 0) (at d m r 0) 2 functions.Add (atoms.Var 2) (atoms.Num 1) (n - m) 1 r (two d m (n - m) 0) refl (adds p memory1 (n - m) 1 r (omega arith) (omega arith)) (becomes_two d m (n - m) 0 r)) go))
      (λ o s' k go. done (computes p (at d m n 0) (at d m (n - m) 0) 2 functions.Sub (atoms.Var 2) (atoms.Var 1) n m (n - m) (two d m n 0) (one d m n 0) (subtracts p memory1 n m (n - m) (omega arith) (omega arith)) (becomes_two d m n 0 (n - m))) go)

  throw_ends : (d m n : ℕ) → m < 16384 → n < 16384 → Ends THROW_ACTS (drop 5 THROW_ACTS) (at d m n 0) (drawn_behind p d (thrown (word_at p.world d) m n)) (thrown (word_at p.world d) m n) 10
  unfolding behind_label
  throw_ends d m n a b =
      let r = n - m + 1 in
      let w' = word_at p.world d % r in
      elim (cases_lt n m) [
        | inl lt ↦ rw (lt-ltb n m lt) (fails THROW_ACTS (drop 6 THROW_ACTS) (record { comparison = comparisons.Less; first = atoms.Var 2; second = atoms.Var 1; answer = true }) d m n 0 10 (omega arith) refl (second_less_first d m n true (less_by n m (omega arith) (omega arith) lt)))
        | inr ge ↦ rw (le-ltb n m ge) (stepped (throw_drawn d m n r w' a b ge refl refl) (λ o s' k go. passed (second_less_first d m n false (not_less_by n m (omega arith) (omega arith) ge)) go))
      ]

-- ## Routines

-- What a routine makes by what it does with two numbers.
makes_by : (p : Program) → HasRunTime p → (f w : ℕ) → 2 ≤ f → 8 ≤ w → (rest : List Act) (memory typed output : List ℕ) (drawn : ℕ) (sh : Shape) → IsShape sh → (cells : ℕ → ℕ) → (h : Holds p.world.layout memory cells) → (S : Substitution) → Stands sh cells S → (x y : ℕ) (v u : Value) → Shows sh x v → Shows sh y u →
    (g : ℕ → ℕ → Option ℕ) (by : Option ℕ → ℕ) (map : IsMapped p) → by None ≡ drawn → behind_label 0 (both_first (both_tested rest)) ≡ Some the_end →
    ((m n : ℕ) → m < 16384 → n < 16384 → Ends p map f w memory typed output cells h (both_first (both_tested rest)) rest (at p map f w memory typed output cells h drawn m n 0) (by (g m n)) (g m n) 10) →
    let made = of_numbers g (walk S v) (walk S u) in
    Makes p f w (both_first (both_tested rest)) memory (x ∷ y ∷ 0 ∷ []) typed output drawn (by made) cells made (5 * links S v + 5 * links S u + 32)
makes_by p has f w some_f enough rest memory typed output drawn sh is cells h S st x y v u sx sy g by map none_by there numbers =
    let body = both_first (both_tested rest) in
    let b = both_told p has f w some_f enough body (both_tested rest) memory typed output drawn sh is cells h S st x y 0 v u sx sy in
    let e = by_kinds p map f w memory typed output cells h body rest drawn g by none_by there numbers (walk S v) (walk S u) (kind_of (walk S v) b.first_fits) (kind_of (walk S u) b.second_fits) in
    let few = b.few in
    let few' = e.few in
    record {
      memory' = e.memory';
      cells' = e.cells';
      holds = e.holds;
      clash = e.clash;
      others = e.others;
      small = e.small;
      locals' = e.locals';
      count = b.count + e.count;
      few = omega arith;
      runs = b.runs (Returns (result_word (of_numbers g (walk S v) (walk S u)))) _ e.count e.runs;
    }

plus_works : MakeOf PLUS_ACTS (λ p drawn. calculated Plus) (λ p drawn made. drawn)
unfolding behind_label
plus_works p has f w some_f enough memory typed output drawn sh is cells h S st x y v u sx sy = makes_by p has f w some_f enough (drop 5 PLUS_ACTS) memory typed output drawn sh is cells h S st x y v u sx sy (calculated Plus) (λ made. drawn) has.mapped refl refl (λ m n a b. within p has.mapped f w memory typed output cells h 8 10 (omega arith) (plus_ends p has.mapped f w memory typed output cells h drawn m n a b))

minus_works : MakeOf MINUS_ACTS (λ p drawn. calculated Minus) (λ p drawn made. drawn)
unfolding behind_label
minus_works p has f w some_f enough memory typed output drawn sh is cells h S st x y v u sx sy = makes_by p has f w some_f enough (drop 5 MINUS_ACTS) memory typed output drawn sh is cells h S st x y v u sx sy (calculated Minus) (λ made. drawn) has.mapped refl refl (λ m n a b. within p has.mapped f w memory typed output cells h 8 10 (omega arith) (minus_ends p has.mapped f w memory typed output cells h drawn m n a b))

times_works : MakeOf TIMES_ACTS (λ p drawn. calculated Times) (λ p drawn made. drawn)
unfolding behind_label
times_works p has f w some_f enough memory typed output drawn sh is cells h S st x y v u sx sy = makes_by p has f w some_f enough (drop 5 TIMES_ACTS) memory typed output drawn sh is cells h S st x y v u sx sy (calculated Times) (λ made. drawn) has.mapped refl refl (λ m n a b. within p has.mapped f w memory typed output cells h 8 10 (omega arith) (times_ends p has.mapped f w memory typed output cells h drawn m n a b))

divide_works : MakeOf DIVIDE_ACTS (λ p drawn. calculated Divide) (λ p drawn made. drawn)
unfolding behind_label
divide_works p has f w some_f enough memory typed output drawn sh is cells h S st x y v u sx sy = makes_by p has f w some_f enough (drop 5 DIVIDE_ACTS) memory typed output drawn sh is cells h S st x y v u sx sy (calculated Divide) (λ made. drawn) has.mapped refl refl (λ m n a b. within p has.mapped f w memory typed output cells h 8 10 (omega arith) (divide_ends p has.mapped f w memory typed output cells h drawn m n a b))

modulo_works : MakeOf MODULO_ACTS (λ p drawn. calculated Modulo) (λ p drawn made. drawn)
unfolding behind_label
modulo_works p has f w some_f enough memory typed output drawn sh is cells h S st x y v u sx sy = makes_by p has f w some_f enough (drop 5 MODULO_ACTS) memory typed output drawn sh is cells h S st x y v u sx sy (calculated Modulo) (λ made. drawn) has.mapped refl refl (λ m n a b. within p has.mapped f w memory typed output cells h 8 10 (omega arith) (modulo_ends p has.mapped f w memory typed output cells h drawn m n a b))

pub arith_works : ArithWorks
arith_works Plus = plus_works
arith_works Minus = minus_works
arith_works Times = times_works
arith_works Divide = divide_works
arith_works Modulo = modulo_works

pub throw_works : ThrowWorks
unfolding behind_label
throw_works p has f w some_f enough memory typed output drawn sh is cells h S st x y v u sx sy = makes_by p has f w some_f enough (drop 5 THROW_ACTS) memory typed output drawn sh is cells h S st x y v u sx sy (thrown (word_at p.world drawn)) (drawn_behind p drawn) has.mapped refl refl (throw_ends p has.mapped f w memory typed output cells h drawn)
