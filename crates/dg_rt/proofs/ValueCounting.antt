-- The routine that tells how many values stand in a row does so.
use Rattle.std.proofs.Common.{◌≡◌, ◌≢◌, ℕ, suc, ◌+◌, ◌-◌, ◌*◌, ◌%◌, ◌<◌, ◌≤◌, Bool, true, false, List, [], ◌∷◌, ◌++◌, drop, length, map, Some, refl, sym, ap, ◌∙◌, subst, arith, length-append}
use Rattle.std.specs.Prelude.{◌==◌}
use Rattle.std.specs.List.{sum_by}
use Rattle.std.proofs.lemmas.Bool.{eq-eqb, ne_eqb}
use Rattle.std.proofs.lemmas.List.{append-nil, map-append}
use Rattle.std.proofs.lemmas.List.Sums.{sum_by-cons}
use Rattle.dg_base.specs.declared.cells.Cell.TheVariants as cell
use Rattle.dg_meaning.specs.Values.{Num, Word, Unknown, Object, Nil, Pair, Closure, Value, Var, Node, Values, NoMore, More, leaf}
use Rattle.dg_meaning.specs.ValueCells.{count_of, cells_of, cells_of_all}
use Rattle.dg_meaning.specs.Unify.{size, sizes}
use Rattle.z_lang.specs.declared.act.Act.{Act}
use Rattle.z_lang.specs.declared.act.Act.TheVariants as acts
use Rattle.z_lang.specs.declared.act.Atom.TheVariants as atoms
use Rattle.z_lang.specs.declared.act.Comparison.TheVariants as comparisons
use Rattle.z_lang.specs.declared.act.Function.TheVariants as functions
use Rattle.z_lang.specs.State.{State, Program}
use Rattle.z_lang.specs.Acts.{answer_of, computed, does}
use Rattle.z_lang.specs.Runs.{ActsRun as Runs, Returns, at_label, goes, taken, passed, done, returns, behind_label}
use Rattle.z_lang.specs.Standing.{IsKept}
use Rattle.dg_rt.specs.declared.gathering.TheConstants.{COUNT_VALUES_ACTS}
use Rattle.dg_rt.specs.Cells.{compared, at_cell, Holds}
use Rattle.dg_rt.specs.Areas.{state}
use Rattle.dg_rt.specs.Laying.{FormedAs, Formed, AllFormed}
use Rattle.dg_rt.specs.Copies.{cell_word, words_of, Row}
use Rattle.dg_rt.specs.CopiesIn.{HasCaptures}
use Rattle.dg_rt.specs.Gatherings.{rows_of, AreFormed}
use Rattle.dg_rt.specs.inside.Walks.{steps}
use Rattle.dg_rt.proofs.Cells.{reads_cell}
use Rattle.dg_rt.proofs.CopySteps.{chars_are}
use Rattle.dg_rt.proofs.Following.{word, some_state, tested, computes}
use Rattle.dg_rt.proofs.LaySteps.{rows_front, rows_back}
use Rattle.dg_rt.proofs.Locals.{added, adds, subtracts, get_1, get_2, get_3, get_4, set_1, set_3, set_4, simple_is_positive, high_is_less, reference, boxed_no_reference}
use Rattle.dg_rt.proofs.UnifySteps.{steps_are}

-- How many values there are was answered, and nothing was changed.
pub record TellsCount (p : Program) (f w : ℕ) (acts : List Act) (memory locals typed output : List ℕ) (drawn total most : ℕ) : Type 0 where
  pub locals' : List ℕ
  pub count : ℕ
  pub few : count ≤ most
  pub runs : Runs p f w COUNT_VALUES_ACTS acts (state memory locals typed drawn output) (Returns total) (state memory locals' typed drawn output) count

abbrev rows : Values → List ℕ
rows vs = map cell_word (cells_of_all vs)

rows_more : (v : Value) (vs : Values) → rows (More v vs) ≡ words_of v ++ rows vs
rows_more v vs = map-append cell_word (cells_of v) (cells_of_all vs)

word_words : (xs : List ℕ) → words_of (leaf (Unknown xs)) ≡ (32769 + length xs) ∷ xs
word_words xs = ap (λ (l : List ℕ). (32769 + length xs) ∷ l) (ap (map cell_word) (append-nil (map cell.Char xs)) ∙ chars_are xs)

-- a pair has two parts
pair_count : (captures : ℕ → ℕ) (vs : Values) → FormedAs captures Pair vs → count_of vs ≡ 2
pair_count captures (More h (More t NoMore)) fine = refl
pair_count captures NoMore fine = absurd fine
pair_count captures (More h NoMore) fine = absurd fine
pair_count captures (More h (More t (More u vs))) fine = absurd fine

module _ (p : Program) (story : List ℕ) (captures : ℕ → ℕ) (has : HasCaptures p story captures) (f w : ℕ) (memory typed output : List ℕ) (drawn : ℕ) (cells : ℕ → ℕ) (h : Holds p.world.layout memory cells) (kept : IsKept p.world.layout.base story memory) (e : ℕ) (within : at_cell e ≤ p.world.layout.base) (small : at_cell e < 65536) (first : ℕ) (short : e < first + 16000) (total : ℕ) where
  abbrev st : ℕ → ℕ → ℕ → State
  st a c x = state memory (a ∷ at_cell e ∷ c ∷ x ∷ []) typed drawn output

  abbrev Run : List Act → State → State → ℕ → Type 0
  Run acts s s' n = Runs p f w COUNT_VALUES_ACTS acts s (Returns total) s' n

  -- The routine goes on so from a cell on, with so much counted.
  abbrev On : List Act → ℕ → ℕ → ℕ → ℕ → Type 0
  On acts a c x most = TellsCount p f w acts memory (a ∷ at_cell e ∷ c ∷ x ∷ []) typed output drawn total most

  -- so it does whatever the last word was
  abbrev Rest : ℕ → ℕ → ℕ → Type 0
  Rest r c most = (x : ℕ) → On (drop 1 COUNT_VALUES_ACTS) (at_cell r) c x most

  longer : {acts acts' : List Act} {a b c d x y most : ℕ} (k : ℕ) → ((s' : State) (n : ℕ) → Run acts (st a c x) s' n → Run acts' (st b d y) s' (steps k n)) → On acts a c x most → On acts' b d y (k + most)
  longer k way r = let few = r.few in record { locals' = r.locals'; count = steps k r.count; few = omega (arith, steps_are k r.count); runs = way _ r.count r.runs }

  weaker : {acts : List Act} {a c x most most' : ℕ} → most ≤ most' → On acts a c x most → On acts a c x most'
  weaker le r = let few = r.few in record { locals' = r.locals'; count = r.count; few = omega arith; runs = r.runs }

  -- ---- tests and acts

  less : (a c x k : ℕ) (answer t : Bool) → compared comparisons.Less x k ≡ t → answer_of p (st a c x) (record { comparison = comparisons.Less; first = atoms.Var 4; second = atoms.Num k; answer = answer }) ≡ Some t
  less a c x k answer t q = tested p (st a c x) comparisons.Less (atoms.Var 4) (atoms.Num k) answer x k t (get_4 p memory a (at_cell e) c x typed drawn output) refl q

  same : (a c x k : ℕ) (answer t : Bool) → (x == k) ≡ t → answer_of p (st a c x) (record { comparison = comparisons.Equal; first = atoms.Var 4; second = atoms.Num k; answer = answer }) ≡ Some t
  same a c x k answer t q = tested p (st a c x) comparisons.Equal (atoms.Var 4) (atoms.Num k) answer x k t (get_4 p memory a (at_cell e) c x typed drawn output) refl q

  sub_is : (x y z : ℕ) → (x + (65536 - y)) % 65536 ≡ z → computed p.world.layout memory functions.Sub x y ≡ word z
  unfolding computed
  sub_is x y z q = ap word q

  one_more : (a c x d : ℕ) → (c + 1) % 65536 ≡ d → does p (acts.Compute 3 functions.Add (atoms.Var 3) (atoms.Num 1)) (st a c x) ≡ some_state (st a d x)
  one_more a c x d q = computes p (st a c x) (st a d x) 3 functions.Add (atoms.Var 3) (atoms.Num 1) c 1 d (get_3 p memory a (at_cell e) c x typed drawn output) refl (added p memory c 1 d q) (set_3 p memory a (at_cell e) c x d typed drawn output)

  two_less : (a c x d : ℕ) → (c + (65536 - 2)) % 65536 ≡ d → does p (acts.Compute 3 functions.Sub (atoms.Var 3) (atoms.Num 2)) (st a c x) ≡ some_state (st a d x)
  two_less a c x d q = computes p (st a c x) (st a d x) 3 functions.Sub (atoms.Var 3) (atoms.Num 2) c 2 d (get_3 p memory a (at_cell e) c x typed drawn output) refl (sub_is c 2 d q) (set_3 p memory a (at_cell e) c x d typed drawn output)

  word_less : (a c x d : ℕ) → (c + (65536 - x)) % 65536 ≡ d → does p (acts.Compute 3 functions.Sub (atoms.Var 3) (atoms.Var 4)) (st a c x) ≡ some_state (st a d x)
  word_less a c x d q = computes p (st a c x) (st a d x) 3 functions.Sub (atoms.Var 3) (atoms.Var 4) c x d (get_3 p memory a (at_cell e) c x typed drawn output) (get_4 p memory a (at_cell e) c x typed drawn output) (sub_is c x d q) (set_3 p memory a (at_cell e) c x d typed drawn output)

  passes : (a b c x : ℕ) → a + x ≡ b → b < 65536 → does p (acts.Compute 1 functions.Add (atoms.Var 1) (atoms.Var 4)) (st a c x) ≡ some_state (st b c x)
  passes a b c x q lt = computes p (st a c x) (st b c x) 1 functions.Add (atoms.Var 1) (atoms.Var 4) a x b (get_1 p memory a (at_cell e) c x typed drawn output) (get_4 p memory a (at_cell e) c x typed drawn output) (adds p memory a x b q lt) (set_1 p memory a (at_cell e) c x b typed drawn output)

  -- up to the tests of a word
  to_word : (r c d x y : ℕ) → (c + 1) % 65536 ≡ d → cells r ≡ y → r < e → (s' : State) (n : ℕ) → Run (drop 5 COUNT_VALUES_ACTS) (st (at_cell (suc r)) d y) s' n → Run (drop 1 COUNT_VALUES_ACTS) (st (at_cell r) c x) s' (suc (suc (suc (suc n))))
  to_word r c d x y more is lt s' n rest =
      passed (tested p (st (at_cell r) c x) comparisons.Equal (atoms.Var 1) (atoms.Var 2) true (at_cell r) (at_cell e) false (get_1 p memory (at_cell r) (at_cell e) c x typed drawn output) (get_2 p memory (at_cell r) (at_cell e) c x typed drawn output) (ne_eqb (at_cell r) (at_cell e) (λ (q : at_cell r ≡ at_cell e). (omega arith))))
      (done (computes p (st (at_cell r) c x) (st (at_cell r) c y) 4 functions.Word (atoms.Var 1) (atoms.Num 0) (at_cell r) 0 y (get_1 p memory (at_cell r) (at_cell e) c x typed drawn output) refl (reads_cell p.world.layout memory cells (at_cell r) 0 r h (omega arith) (omega arith) ∙ ap word is) (set_4 p memory (at_cell r) (at_cell e) c x y typed drawn output))
      (done (computes p (st (at_cell r) c y) (st (at_cell (suc r)) c y) 1 functions.Add (atoms.Var 1) (atoms.Num 2) (at_cell r) 2 (at_cell (suc r)) (get_1 p memory (at_cell r) (at_cell e) c y typed drawn output) refl (adds p memory (at_cell r) 2 (at_cell (suc r)) (omega arith) (omega arith)) (set_1 p memory (at_cell r) (at_cell e) c y (at_cell (suc r)) typed drawn output))
      (done (one_more (at_cell (suc r)) c y d more)
      rest)))

  -- ---- one cell each

  simple : (r c d y most : ℕ) → (c + 1) % 65536 ≡ d → cells r ≡ y → r < e → y < 32768 → y ≢ 28673 → Rest (suc r) d most → Rest r c (6 + most)
  unfolding behind_label
  simple r c d y most more is lt low ne rest x =
      longer 6 (λ s' n q. to_word r c d x y more is lt s' (suc (suc n)) (passed (less (at_cell (suc r)) d y 0 true false (simple_is_positive y low)) (taken (same (at_cell (suc r)) d y 28673 false false (ne_eqb y 28673 ne)) refl q))) (rest y)

  pair_cell : (r c d d' most : ℕ) → (c + 1) % 65536 ≡ d → (d + (65536 - 2)) % 65536 ≡ d' → cells r ≡ 28673 → r < e → Rest (suc r) d' most → Rest r c (8 + most)
  unfolding behind_label
  pair_cell r c d d' most more fewer is lt rest x =
      longer 8 (λ s' n q. to_word r c d x 28673 more is lt s' (suc (suc (suc (suc n)))) (passed (less (at_cell (suc r)) d 28673 0 true false refl) (passed (same (at_cell (suc r)) d 28673 28673 false true refl) (done (two_less (at_cell (suc r)) d 28673 d' fewer) (goes refl q))))) (rest 28673)

  fresh : (r c d most : ℕ) → (c + 1) % 65536 ≡ d → cells r ≡ 32768 → r < e → Rest (suc r) d most → Rest r c (7 + most)
  unfolding behind_label
  fresh r c d most more is lt rest x =
      longer 7 (λ s' n q. to_word r c d x 32768 more is lt s' (suc (suc (suc n))) (taken (less (at_cell (suc r)) d 32768 0 true true refl) refl (passed (less (at_cell (suc r)) d 32768 49152 false true refl) (taken (same (at_cell (suc r)) d 32768 32768 true true refl) refl q)))) (rest 32768)

  closure_cell : (r c d d' place most : ℕ) → place < 16384 → captures place < 256 → (c + 1) % 65536 ≡ d → (d + (65536 - captures place)) % 65536 ≡ d' → cells r ≡ 49152 + place → r < e → Rest (suc r) d' most → Rest r c (10 + most)
  unfolding behind_label
  closure_cell r c d d' place most few fine more fewer is lt rest x =
      let y = 49152 + place in
      let a = at_cell (suc r) in
      let k = captures place in
      longer 10 (λ s' n q. to_word r c d x y more is lt s' (suc (suc (suc (suc (suc (suc n))))))
      (taken (less a d y 0 true true (high_at y (omega arith) (omega arith))) refl
      (taken (less a d y 49152 false false (boxed_no_reference place few)) refl
      (done (computes p (st a d y) (st a d place) 4 functions.Add (atoms.Var 4) (atoms.Num 16384) y 16384 place (get_4 p memory a (at_cell e) d y typed drawn output) refl (added p memory y 16384 place (omega arith)) (set_4 p memory a (at_cell e) d y place typed drawn output))
      (done (computes p (st a d place) (st a d k) 4 functions.Byte (atoms.Table 0) (atoms.Var 4) (p.names.table 0) place k refl (get_4 p memory a (at_cell e) d place typed drawn output) (has.told memory place few fine kept) (set_4 p memory a (at_cell e) d place k typed drawn output))
      (done (word_less a d k d' fewer)
      (goes refl q))))))) (rest k)
    where
      high_at : (y : ℕ) → 32768 ≤ y → y < 65536 → compared comparisons.Less y 0 ≡ true
      high_at y le lt = high_is_less y 0 le lt (omega arith)

  unknown_cell : (r i c d most : ℕ) (xs : List ℕ) → (c + 1) % 65536 ≡ d → cells r ≡ 32769 + length xs → i ≡ suc r + length xs → i ≤ e → length xs < 16000 → Rest i d most → Rest r c (11 + most)
  unfolding behind_label
  unknown_cell r i c d most xs more is here le room rest x =
      let k = length xs in
      let y = 32769 + k in
      let a = at_cell (suc r) in
      let b = a + k in
      let g = b + k in
      let end : g ≡ at_cell i = omega arith in
      let rest' : On (drop 1 COUNT_VALUES_ACTS) g d k most = subst (λ (j : ℕ). On (drop 1 COUNT_VALUES_ACTS) j d k most) (sym end) (rest k) in
      longer 11 (λ s' n q. to_word r c d x y more is (omega arith) s' (suc (suc (suc (suc (suc (suc (suc n)))))))
      (taken (less a d y 0 true true (high_is_less y 0 (omega arith) (omega arith) (omega arith))) refl
      (passed (less a d y 49152 false true (reference_at y (omega arith) (omega arith)))
      (passed (same a d y 32768 true false (ne_eqb y 32768 (λ (q : y ≡ 32768). (omega arith))))
      (done (computes p (st a d y) (st a d k) 4 functions.Sub (atoms.Var 4) (atoms.Num 32769) y 32769 k (get_4 p memory a (at_cell e) d y typed drawn output) refl (subtracts p memory y 32769 k refl (omega arith)) (set_4 p memory a (at_cell e) d y k typed drawn output))
      (done (passes a b d k refl (omega arith))
      (done (passes b g d k refl (omega arith))
      (goes refl q)))))))) rest'
    where
      reference_at : (y : ℕ) → 32768 ≤ y → y < 49152 → compared comparisons.Less y 49152 ≡ true
      reference_at y low high = let is : y ≡ 32768 + (y - 32768) = omega arith in subst (λ (z : ℕ). compared comparisons.Less z 49152 ≡ true) (sym is) (reference (y - 32768) (omega arith))

  -- the same place and count, written otherwise
  by_end : (r i c d x most : ℕ) → r ≡ i → c ≡ d → On (drop 1 COUNT_VALUES_ACTS) (at_cell r) c x most → On (drop 1 COUNT_VALUES_ACTS) (at_cell i) d x most
  by_end r i c d x most a b q = subst (λ (j : ℕ). On (drop 1 COUNT_VALUES_ACTS) (at_cell j) d x most) a (subst (λ (j : ℕ). On (drop 1 COUNT_VALUES_ACTS) (at_cell r) j x most) b q)

  moved : (r i c x most : ℕ) → r ≡ i → On (drop 1 COUNT_VALUES_ACTS) (at_cell r) c x most → On (drop 1 COUNT_VALUES_ACTS) (at_cell i) c x most
  moved r i c x most a q = by_end r i c c x most a refl q

  -- ---- values

  mutual
    value_on : (v : Value) (r c d most : ℕ) → c < 65536 → first ≤ r → (c + 1) % 65536 ≡ d → Formed captures v → Row cells r (words_of v) → r + length (words_of v) ≤ e → Rest (r + length (words_of v)) d most → Rest r c (12 * size v + most)
    value_on (Var y) r c d most word_c low more fine row le rest x = weaker (omega arith) (fresh r c d most more row.0 (omega arith) (λ x'. moved (r + 1) (suc r) d x' most (omega arith) (rest x')) x)
    value_on (Node (Num n) NoMore) r c d most word_c low more fine row le rest x = let lt : n < 16384 = fine.0 in weaker (omega arith) (simple r c d n most more row.0 (omega arith) (omega arith) (λ (q : n ≡ 28673). (omega arith)) (λ x'. moved (r + 1) (suc r) d x' most (omega arith) (rest x')) x)
    value_on (Node (Word n) NoMore) r c d most word_c low more fine row le rest x = let lt : n < 8192 = fine.0 in weaker (omega arith) (simple r c d (16384 + n) most more row.0 (omega arith) (omega arith) (λ (q : 16384 + n ≡ 28673). (omega arith)) (λ x'. moved (r + 1) (suc r) d x' most (omega arith) (rest x')) x)
    value_on (Node (Object n) NoMore) r c d most word_c low more fine row le rest x = let lt : n < 4096 = fine.0 in weaker (omega arith) (simple r c d (24576 + n) most more row.0 (omega arith) (omega arith) (λ (q : 24576 + n ≡ 28673). (omega arith)) (λ x'. moved (r + 1) (suc r) d x' most (omega arith) (rest x')) x)
    value_on (Node Nil NoMore) r c d most word_c low more fine row le rest x = weaker (omega arith) (simple r c d 28672 most more row.0 (omega arith) (omega arith) (λ (q : 28672 ≡ 28673). (omega arith)) (λ x'. moved (r + 1) (suc r) d x' most (omega arith) (rest x')) x)
    value_on (Node Pair vs) r c d most word_c low more fine row le rest x =
        let told : count_of vs ≡ 2 = pair_count captures vs fine.0 in
        let d' = (d + (65536 - 2)) % 65536 in
        weaker (omega arith) (pair_cell r c d d' (12 * sizes vs + most) more refl row.0 (omega arith) (λ x'. all_on vs (suc r) d' d most (omega arith) (omega arith) (omega arith) fine.1 row.1 (omega arith) (λ x''. moved (r + suc (length (rows vs))) (suc r + length (rows vs)) d x'' most (omega arith) (rest x'')) x') x)
    value_on (Node (Closure place) vs) r c d most word_c low more fine row le rest x =
        let told : count_of vs ≡ captures place = fine.0.1 in
        let few : captures place < 256 = fine.0.2 in
        let d' = (d + (65536 - captures place)) % 65536 in
        weaker (omega arith) (closure_cell r c d d' place (12 * sizes vs + most) fine.0.0 fine.0.2 more refl row.0 (omega arith) (λ x'. all_on vs (suc r) d' d most (omega arith) (omega arith) (omega arith) fine.1 row.1 (omega arith) (λ x''. moved (r + suc (length (rows vs))) (suc r + length (rows vs)) d x'' most (omega arith) (rest x'')) x') x)
    value_on (Node (Unknown xs) NoMore) r c d most word_c low more fine row le rest x =
        let is = word_words xs in
        let n = ap (λ (l : List ℕ). length l) is in
        let row' : Row cells r ((32769 + length xs) ∷ xs) = subst (Row cells r) is row in
        let i = suc r + length xs in
        weaker (omega arith) (unknown_cell r i c d most xs more row'.0 refl (omega arith) (omega arith) (λ x'. moved (r + length (words_of (leaf (Unknown xs)))) i d x' most (omega arith) (rest x')) x)
    value_on (Node g vs) r c d most word_c low more fine row le rest x = absurd fine.0

    all_on : (vs : Values) (r c d most : ℕ) → c < 65536 → first ≤ r → (c + count_of vs) % 65536 ≡ d → AllFormed captures vs → Row cells r (rows vs) → r + length (rows vs) ≤ e → Rest (r + length (rows vs)) d most → Rest r c (12 * sizes vs + most)
    all_on NoMore r c d most word_c low more fine row le rest x = weaker (omega arith) (by_end (r + 0) r d c x most (omega arith) (omega arith) (rest x))
    all_on (More v vs) r c d most word_c low more fine row le rest x =
        let is = rows_more v vs in
        let n = ap (λ (l : List ℕ). length l) is in
        let n' = length-append (words_of v) (rows vs) in
        let row' : Row cells r (words_of v ++ rows vs) = subst (Row cells r) is row in
        let i = r + length (words_of v) in
        let c' = (c + 1) % 65536 in
        weaker (omega arith) (value_on v r c c' (12 * sizes vs + most) word_c low refl fine.0 (rows_front cells r (words_of v) (rows vs) row') (omega arith)
        (λ x'. all_on vs i c' d most (omega arith) (omega arith) (omega arith) fine.1 (rows_back cells r i (words_of v) (rows vs) refl row') (omega arith) (λ x''. moved (r + length (rows (More v vs))) (i + length (rows vs)) d x'' most (omega arith) (rest x'')) x') x)

  -- values one behind another
  list_on : (vs : List Value) (r c d most : ℕ) → c < 65536 → first ≤ r → (c + length vs) % 65536 ≡ d → AreFormed captures vs → Row cells r (rows_of vs) → r + length (rows_of vs) ≤ e → Rest (r + length (rows_of vs)) d most → Rest r c (12 * sum_by size vs + most)
  list_on [] r c d most word_c low more fine row le rest x = weaker (omega arith) (by_end (r + 0) r d c x most (omega arith) (omega arith) (rest x))
  list_on (v ∷ vs) r c d most word_c low more fine row le rest x =
      let n' = length-append (words_of v) (rows_of vs) in
      let i = r + length (words_of v) in
      let c' = (c + 1) % 65536 in
      let b = sum_by-cons size v vs in
      weaker (omega arith) (value_on v r c c' (12 * sum_by size vs + most) word_c low refl fine.0 (rows_front cells r (words_of v) (rows_of vs) row) (omega arith)
      (λ x'. list_on vs i c' d most (omega arith) (omega arith) (omega arith) fine.1 (rows_back cells r i (words_of v) (rows_of vs) refl row) (omega arith) (λ x''. moved (r + length (rows_of (v ∷ vs))) (i + length (rows_of vs)) d x'' most (omega arith) (rest x'')) x') x)

  -- at the end of the row
  ends : (x : ℕ) → On (drop 1 COUNT_VALUES_ACTS) (at_cell e) total x 2
  unfolding behind_label
  ends x = record {
    locals' = at_cell e ∷ at_cell e ∷ total ∷ x ∷ [];
    count = 2;
    few = omega arith;
    runs = taken (tested p (st (at_cell e) total x) comparisons.Equal (atoms.Var 1) (atoms.Var 2) true (at_cell e) (at_cell e) true (get_1 p memory (at_cell e) (at_cell e) total x typed drawn output) (get_2 p memory (at_cell e) (at_cell e) total x typed drawn output) (eq-eqb (at_cell e) (at_cell e) refl)) refl (returns (get_3 p memory (at_cell e) (at_cell e) total x typed drawn output));
  }

-- So it does with the cells of values one behind another.
pub count_works : (p : Program) (story : List ℕ) (captures : ℕ → ℕ) → HasCaptures p story captures → (f w : ℕ) (memory typed output : List ℕ) (drawn : ℕ) (cells : ℕ → ℕ) → Holds p.world.layout memory cells → IsKept p.world.layout.base story memory → (vs : List Value) (r : ℕ) → AreFormed captures vs → at_cell (r + length (rows_of vs)) ≤ p.world.layout.base → at_cell (r + length (rows_of vs)) < 65536 → Row cells r (rows_of vs) → length vs < 65536 → length (rows_of vs) < 16000 →
    TellsCount p f w COUNT_VALUES_ACTS memory (at_cell r ∷ at_cell (r + length (rows_of vs)) ∷ 0 ∷ 0 ∷ []) typed output drawn (length vs) (12 * sum_by size vs + 2)
count_works p story captures has f w memory typed output drawn cells h kept vs r fine within small row room short =
    let e = r + length (rows_of vs) in
    let n = length vs in
    let t = list_on p story captures has f w memory typed output drawn cells h kept e within small r (omega arith) n vs r 0 n 2 (omega arith) (omega arith) (omega arith) fine row (omega arith) (λ x. ends p story captures has f w memory typed output drawn cells h kept e within small r (omega arith) n x) 0 in
    record { locals' = t.locals'; count = t.count; few = t.few; runs = at_label t.runs }
