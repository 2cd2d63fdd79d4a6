-- The cells of what letters spell are written.
use Rattle.std.proofs.Common.{◌≡◌, ℕ, suc, ◌+◌, ◌*◌, ◌<◌, ◌≤◌, Bool, true, false, List, [], ◌∷◌, drop, length, map, Option, Some, refl, sym, ap, ◌∙◌, subst, arith, append-nil}
use Rattle.std.specs.Prelude.{nat_le, encode_utf8_all}
use Rattle.std.specs.List.{list_all}
use Rattle.std.proofs.lemmas.Bool.{eq-eqb, ne_eqb, and_parts, leb-true}
use Rattle.dg_base.specs.declared.cells.Cell.TheVariants as cell
use Rattle.dg_meaning.specs.Unify.{same_spelling}
use Rattle.dg_meaning.specs.Values.{Num, Word, Unknown, Value, leaf}
use Rattle.dg_meaning.specs.Words.{is_digit, is_number, number_behind, word_from, spelled_value}
use Rattle.z_lang.specs.declared.act.Act.{Act}
use Rattle.z_lang.specs.declared.act.Atom.TheVariants as atoms
use Rattle.z_lang.specs.declared.act.Comparison.TheVariants as comparisons
use Rattle.z_lang.specs.declared.act.Function.TheVariants as functions
use Rattle.z_lang.specs.declared.act.Width.TheVariants as widths
use Rattle.z_lang.specs.State.{State, Program}
use Rattle.z_lang.specs.Runs.{ActsRun as Runs, Returns, at_label, goes, taken, passed, done, calls, returns, behind_label}
use Rattle.z_lang.specs.Standing.{IsKept}
use Rattle.dg_rt.specs.declared.numbers.TheConstants.{FIND_WORD, SPELLED_NUMBER}
use Rattle.dg_rt.specs.declared.dictionary.TheConstants.{FIND_WORD_ACTS}
use Rattle.dg_rt.specs.declared.typing.TheConstants.{SPELLED_NUMBER_ACTS, SPELLED_ACTS}
use Rattle.dg_rt.specs.Cells.{at_cell, with_cell, replaced, Holds}
use Rattle.dg_rt.specs.Areas.{state}
use Rattle.dg_rt.specs.Copies.{cell_word, words_of, Row}
use Rattle.dg_rt.specs.Dictionary.{HasSpellings, dict_word, FindsWord}
use Rattle.dg_rt.specs.RunTime.{routine_of, HasRunTime}
use Rattle.dg_rt.specs.Typing.{number_spelled, TellsNumber, WritesCells, SpelledWorks}
use Rattle.dg_rt.proofs.Cells.{holds_with, reads_cell, writes_cell, other_cell, same_cell}
use Rattle.dg_rt.proofs.CaptureSteps.{divides}
use Rattle.dg_rt.proofs.CopySteps.{rows_keep, chars_are}
use Rattle.dg_rt.proofs.FindingWords.{find_works}
use Rattle.dg_rt.proofs.Following.{word, tested, computes, writes}
use Rattle.dg_rt.proofs.LaySteps.{kept_cell}
use Rattle.dg_rt.proofs.Locals.{added, subtracts, get_1, get_2, get_3, get_4, set_1, set_3, set_4}
use Rattle.dg_rt.proofs.SpelledNumbers.{tells_number}

-- ## What a spelling is

-- A number, or none.
pub data Numbered (letters : List ℕ) : Type 0 where
  a_number : (n : ℕ) → n < 16384 → number_spelled letters ≡ n → ((words : List (List ℕ)) → spelled_value words letters ≡ leaf (Num n)) → Numbered letters
  no_number : number_spelled letters ≡ 65535 → ((words : List (List ℕ)) → spelled_value words letters ≡ word_from 0 words letters) → Numbered letters

small_number : (letters : List ℕ) → is_number letters ≡ true → number_behind 0 letters ≤ 16383
small_number [] e = absurd (cc e)
small_number (c ∷ cs) e = let q = and_parts (list_all is_digit (c ∷ cs)) (nat_le (number_behind 0 (c ∷ cs)) 16383) e in leb-true (number_behind 0 (c ∷ cs)) 16383 q.1

pub numbered : (letters : List ℕ) → Numbered letters
numbered letters = by_test (is_number letters) refl
  where
    by_test : (t : Bool) → is_number letters ≡ t → Numbered letters
    by_test true e = let few = small_number letters e in a_number (number_behind 0 letters) (omega arith) (rw e refl) (λ words. rw e refl)
    by_test false e = no_number (rw e refl) (λ words. rw e refl)

-- A word of the program, or none.
pub data Looked (letters : List ℕ) (v : Value) : Type 0 where
  a_word : (n : ℕ) → n < 8192 → v ≡ leaf (Word n) → Looked letters v
  unknown : v ≡ leaf (Unknown letters) → Looked letters v

pub looked : (n : ℕ) (words : List (List ℕ)) (letters : List ℕ) → n + length words ≤ 8192 → Looked letters (word_from n words letters)
looked n [] letters few = unknown refl
looked n (x ∷ words) letters few = by_test (same_spelling x (encode_utf8_all letters)) refl (looked (suc n) words letters (omega arith))
  where
    by_test : (t : Bool) → same_spelling x (encode_utf8_all letters) ≡ t → Looked letters (word_from (suc n) words letters) → Looked letters (word_from n (x ∷ words) letters)
    by_test true e rest = a_word n (omega arith) (rw e refl)
    by_test false e rest = rw e rest

pub word_words : (xs : List ℕ) → words_of (leaf (Unknown xs)) ≡ (32769 + length xs) ∷ xs
word_words xs = ap (λ (l : List ℕ). (32769 + length xs) ∷ l) (ap (map cell_word) (append-nil (map cell.Char xs)) ∙ chars_are xs)

-- What letters spell has no more cells than they are, and one.
short_word : (n : ℕ) (words : List (List ℕ)) (letters : List ℕ) → length (words_of (word_from n words letters)) ≤ 1 + length letters
short_word n [] letters = let e = ap (λ (l : List ℕ). length l) (word_words letters) in omega arith
short_word n (x ∷ words) letters = by_test (same_spelling x (encode_utf8_all letters)) refl (short_word (suc n) words letters)
  where
    by_test : (t : Bool) → same_spelling x (encode_utf8_all letters) ≡ t → length (words_of (word_from (suc n) words letters)) ≤ 1 + length letters → length (words_of (word_from n (x ∷ words) letters)) ≤ 1 + length letters
    by_test true e rest = rw e (omega arith)
    by_test false e rest = rw e rest

pub short_cells : (words : List (List ℕ)) (letters : List ℕ) → length (words_of (spelled_value words letters)) ≤ 1 + length letters
short_cells words letters = by_number (numbered letters)
  where
    by_number : Numbered letters → length (words_of (spelled_value words letters)) ≤ 1 + length letters
    by_number (a_number n lt is value) = rw (value words) (omega arith)
    by_number (no_number none value) = rw (value words) (short_word 0 words letters)

-- ## The routine

spelled_number_at : (p : Program) → HasRunTime p → p.routine_at (p.names.routine SPELLED_NUMBER) ≡ Some (routine_of 4 SPELLED_NUMBER_ACTS)
spelled_number_at p has = has.each 116 (routine_of 4 SPELLED_NUMBER_ACTS) refl

find_word_at : (p : Program) → HasRunTime p → p.routine_at (p.names.routine FIND_WORD) ≡ Some (routine_of 4 FIND_WORD_ACTS)
find_word_at p has = has.each 113 (routine_of 4 FIND_WORD_ACTS) refl

module _ (p : Program) (has : HasRunTime p) (story : List ℕ) (f w : ℕ) (typed output : List ℕ) (drawn : ℕ) where
  abbrev now : List ℕ → ℕ → ℕ → ℕ → ℕ → State
  now m a b c d = state m (a ∷ b ∷ c ∷ d ∷ []) typed drawn output

  abbrev some_now : State → Option State
  some_now s = Some s

  abbrev Run : List Act → State → ℕ → State → ℕ → Type 0
  Run acts s x s' i = Runs p f w SPELLED_ACTS acts s (Returns x) s' i

  abbrev Writes : Value → (ℕ → ℕ) → ℕ → List Act → State → ℕ → Type 0
  Writes v cells o acts s most = WritesCells p story v cells o (λ x memory' locals' count. Run acts s x (state memory' locals' typed drawn output) count) most

  -- more acts in front
  front : {v : Value} {cells : ℕ → ℕ} {o most : ℕ} {acts acts' : List Act} {s s1 : State} (j : ℕ) (g : ℕ → ℕ) → ((i : ℕ) → g i ≤ j + i) → ((x : ℕ) (s' : State) (i : ℕ) → Run acts' s1 x s' i → Run acts s x s' (g i)) → Writes v cells o acts' s1 most → Writes v cells o acts s (j + most)
  front {v} {cells} {o} j g le way r =
      let few = r.few in
      let few' = le r.count in
      record { memory' = r.memory'; cells' = r.cells'; locals' = r.locals'; holds = r.holds; kept = r.kept; row = r.row; others = r.others; count = g r.count; few = omega arith; runs = way (at_cell (o + length (words_of v))) (state r.memory' r.locals' typed drawn output) r.count r.runs }

  cheaper : {v : Value} {cells : ℕ → ℕ} {o most : ℕ} {acts : List Act} {s : State} (most' : ℕ) → most ≤ most' → Writes v cells o acts s most → Writes v cells o acts s most'
  cheaper most' le r = let few = r.few in record { memory' = r.memory'; cells' = r.cells'; locals' = r.locals'; holds = r.holds; kept = r.kept; row = r.row; others = r.others; count = r.count; few = omega arith; runs = r.runs }

  -- ---- one cell

  one_cell : (v : Value) (x o a b : ℕ) (memory : List ℕ) (cells : ℕ → ℕ) → words_of v ≡ x ∷ [] → x < 65536 → Holds p.world.layout memory cells → IsKept p.world.layout.base story memory → o < 15945 → Writes v cells o (drop 6 SPELLED_ACTS) (now memory a b (at_cell o) x) 3
  one_cell v x o a b memory cells is small h kept lt =
      let room = has.mapped.room in
      let m1 = with_cell memory o x in
      let end = at_cell (suc o) in
      let size : length (words_of v) ≡ 1 = ap (λ (l : List ℕ). length l) is in
      let last : end ≡ at_cell (o + length (words_of v)) = omega arith in
      record {
        memory' = m1;
        cells' = replaced cells o x;
        locals' = a ∷ b ∷ end ∷ x ∷ [];
        holds = holds_with p.world.layout memory cells o x h (omega arith) small;
        kept = kept_cell p.world.layout.base story memory o x (omega arith) kept;
        row = subst (Row (replaced cells o x) o) (sym is) (same_cell cells o x, tt);
        others = λ k far. other_cell cells o x k (λ (e : k ≡ o). (let q = far (omega arith) in omega arith));
        count = 3;
        few = omega arith;
        runs = subst (λ (y : ℕ). Run (drop 6 SPELLED_ACTS) (now memory a b (at_cell o) x) y (now m1 a b end x) 3) last
            (done (writes p (now memory a b (at_cell o) x) widths.Word (atoms.Var 3) (atoms.Num 0) (atoms.Var 4) (at_cell o) 0 x m1 (get_3 p memory a b (at_cell o) x typed drawn output) refl (get_4 p memory a b (at_cell o) x typed drawn output) (writes_cell p.world.layout memory cells (at_cell o) 0 x o h (omega arith) (omega arith)))
            (done (computes p (now m1 a b (at_cell o) x) (now m1 a b end x) 3 functions.Add (atoms.Var 3) (atoms.Num 2) (at_cell o) 2 end (get_3 p m1 a b (at_cell o) x typed drawn output) refl (added p m1 (at_cell o) 2 end (omega arith)) (set_3 p m1 a b (at_cell o) x end typed drawn output))
            (returns (get_3 p m1 a b end x typed drawn output))));
      }

  -- ---- letters

  record Copied (memory : List ℕ) (cells : ℕ → ℕ) (k j to d : ℕ) (xs : List ℕ) : Type 0 where
    memory' : List ℕ
    cells' : ℕ → ℕ
    locals' : List ℕ
    holds : Holds p.world.layout memory' cells'
    kept : IsKept p.world.layout.base story memory'
    row : Row cells' j xs
    others : (i : ℕ) → (j ≤ i → j + length xs ≤ i) → cells' i ≡ cells i
    count : ℕ
    few : count ≤ 6 * length xs + 2
    runs : Run (drop 16 SPELLED_ACTS) (now memory (at_cell k) to (at_cell j) d) (at_cell (j + length xs)) (state memory' locals' typed drawn output) count

  copied : (xs : List ℕ) (memory : List ℕ) (cells : ℕ → ℕ) (k j to d : ℕ) → Holds p.world.layout memory cells → IsKept p.world.layout.base story memory → to ≡ at_cell (k + length xs) → j ≤ k → k + length xs ≤ 15945 → Row cells k xs → Copied memory cells k j to d xs
  unfolding behind_label
  copied [] memory cells k j to d h kept is_to le within row =
      let e : at_cell j ≡ at_cell (j + 0) = omega arith in
      record {
        memory' = memory;
        cells' = cells;
        locals' = at_cell k ∷ to ∷ at_cell j ∷ d ∷ [];
        holds = h;
        kept = kept;
        row = tt;
        others = λ i far. refl;
        count = 2;
        few = omega arith;
        runs = subst (λ (y : ℕ). Run (drop 16 SPELLED_ACTS) (now memory (at_cell k) to (at_cell j) d) y (now memory (at_cell k) to (at_cell j) d) 2) e
            (taken (tested p (now memory (at_cell k) to (at_cell j) d) comparisons.Equal (atoms.Var 1) (atoms.Var 2) true (at_cell k) to true (get_1 p memory (at_cell k) to (at_cell j) d typed drawn output) (get_2 p memory (at_cell k) to (at_cell j) d typed drawn output) (eq-eqb (at_cell k) to (omega arith))) refl
            (returns (get_3 p memory (at_cell k) to (at_cell j) d typed drawn output)));
      }
  copied (x ∷ xs) memory cells k j to d h kept is_to le within row =
      let room = has.mapped.room in
      let a = at_cell k in
      let a' = at_cell (suc k) in
      let c = at_cell j in
      let c' = at_cell (suc j) in
      let m1 = with_cell memory j x in
      let c1 = replaced cells j x in
      let small : x < 65536 = subst (λ (y : ℕ). y < 65536) row.0 (h.words k) in
      let h1 = holds_with p.world.layout memory cells j x h (omega arith) small in
      let kept1 = kept_cell p.world.layout.base story memory j x (omega arith) kept in
      let row1 = rows_keep cells c1 (suc k) xs (λ i from to'. other_cell cells j x i (λ (e : i ≡ j). (omega arith))) row.1 in
      let r = copied xs m1 c1 (suc k) (suc j) to x h1 kept1 (omega arith) (omega arith) (omega arith) row1 in
      let few = r.few in
      let last : at_cell (suc j + length xs) ≡ at_cell (j + suc (length xs)) = omega arith in
      record {
        memory' = r.memory';
        cells' = r.cells';
        locals' = r.locals';
        holds = r.holds;
        kept = r.kept;
        row = (r.others j (λ z. (omega arith)) ∙ same_cell cells j x, r.row);
        others = λ i far. r.others i (λ z. (let q = far (omega arith) in omega arith)) ∙ other_cell cells j x i (λ (e : i ≡ j). (let q = far (omega arith) in omega arith));
        count = suc (suc (suc (suc (suc (suc r.count)))));
        few = omega arith;
        runs = passed (tested p (now memory a to c d) comparisons.Equal (atoms.Var 1) (atoms.Var 2) true a to false (get_1 p memory a to c d typed drawn output) (get_2 p memory a to c d typed drawn output) (ne_eqb a to (λ (q : a ≡ to). (omega arith))))
            (done (computes p (now memory a to c d) (now memory a to c x) 4 functions.Word (atoms.Var 1) (atoms.Num 0) a 0 x (get_1 p memory a to c d typed drawn output) refl (reads_cell p.world.layout memory cells a 0 k h (omega arith) (omega arith) ∙ ap word row.0) (set_4 p memory a to c d x typed drawn output))
            (done (writes p (now memory a to c x) widths.Word (atoms.Var 3) (atoms.Num 0) (atoms.Var 4) c 0 x m1 (get_3 p memory a to c x typed drawn output) refl (get_4 p memory a to c x typed drawn output) (writes_cell p.world.layout memory cells c 0 x j h (omega arith) (omega arith)))
            (done (computes p (now m1 a to c x) (now m1 a' to c x) 1 functions.Add (atoms.Var 1) (atoms.Num 2) a 2 a' (get_1 p m1 a to c x typed drawn output) refl (added p m1 a 2 a' (omega arith)) (set_1 p m1 a to c x a' typed drawn output))
            (done (computes p (now m1 a' to c x) (now m1 a' to c' x) 3 functions.Add (atoms.Var 3) (atoms.Num 2) c 2 c' (get_3 p m1 a' to c x typed drawn output) refl (added p m1 c 2 c' (omega arith)) (set_3 p m1 a' to c x c' typed drawn output))
            (goes refl (subst (λ (y : ℕ). Run (drop 16 SPELLED_ACTS) (now m1 a' to c' x) y (state r.memory' r.locals' typed drawn output) r.count) last r.runs))))));
      }

  -- an unknown word
  of_unknown : (xs : List ℕ) (memory : List ℕ) (cells : ℕ → ℕ) (k o d : ℕ) → Holds p.world.layout memory cells → IsKept p.world.layout.base story memory → length xs ≤ 200 → o + 1 ≤ k → k + length xs ≤ 15945 → Row cells k xs → Writes (leaf (Unknown xs)) cells o (drop 10 SPELLED_ACTS) (now memory (at_cell k) (at_cell (k + length xs)) (at_cell o) d) (6 * length xs + 7)
  of_unknown xs memory cells k o d h kept many le within row =
      let room = has.mapped.room in
      let a = at_cell k in
      let to = at_cell (k + length xs) in
      let c = at_cell o in
      let c' = at_cell (suc o) in
      let n = length xs in
      let n2 = 2 * length xs in
      let header = 32769 + length xs in
      let m1 = with_cell memory o header in
      let c1 = replaced cells o header in
      let h1 = holds_with p.world.layout memory cells o header h (omega arith) (omega arith) in
      let kept1 = kept_cell p.world.layout.base story memory o header (omega arith) kept in
      let row1 = rows_keep cells c1 k xs (λ i from to'. other_cell cells o header i (λ (e : i ≡ o). (omega arith))) row in
      let r = copied xs m1 c1 k (suc o) to header h1 kept1 refl (omega arith) within row1 in
      let few = r.few in
      let is = word_words xs in
      let size : length (words_of (leaf (Unknown xs))) ≡ suc (length xs) = ap (λ (l : List ℕ). length l) is in
      let last : at_cell (suc o + length xs) ≡ at_cell (o + length (words_of (leaf (Unknown xs)))) = omega arith in
      record {
        memory' = r.memory';
        cells' = r.cells';
        locals' = r.locals';
        holds = r.holds;
        kept = r.kept;
        row = subst (Row r.cells' o) (sym is) (r.others o (λ z. (omega arith)) ∙ same_cell cells o header, r.row);
        others = λ i far. r.others i (λ z. (let q = far (omega arith) in omega arith)) ∙ other_cell cells o header i (λ (e : i ≡ o). (let q = far (omega arith) in omega arith));
        count = suc (suc (suc (suc (suc r.count))));
        few = omega arith;
        runs = done (computes p (now memory a to c d) (now memory a to c n2) 4 functions.Sub (atoms.Var 2) (atoms.Var 1) to a n2 (get_2 p memory a to c d typed drawn output) (get_1 p memory a to c d typed drawn output) (subtracts p memory to a n2 (omega arith) (omega arith)) (set_4 p memory a to c d n2 typed drawn output))
            (done (computes p (now memory a to c n2) (now memory a to c n) 4 functions.Div (atoms.Var 4) (atoms.Num 2) n2 2 n (get_4 p memory a to c n2 typed drawn output) refl (divides p memory n2 2 (omega arith) (omega arith) (omega arith) ∙ ap word (omega arith)) (set_4 p memory a to c n2 n typed drawn output))
            (done (computes p (now memory a to c n) (now memory a to c header) 4 functions.Add (atoms.Var 4) (atoms.Num 32769) n 32769 header (get_4 p memory a to c n typed drawn output) refl (added p memory n 32769 header (omega arith)) (set_4 p memory a to c n header typed drawn output))
            (done (writes p (now memory a to c header) widths.Word (atoms.Var 3) (atoms.Num 0) (atoms.Var 4) c 0 header m1 (get_3 p memory a to c header typed drawn output) refl (get_4 p memory a to c header typed drawn output) (writes_cell p.world.layout memory cells c 0 header o h (omega arith) (omega arith)))
            (done (computes p (now m1 a to c header) (now m1 a to c' header) 3 functions.Add (atoms.Var 3) (atoms.Num 2) c 2 c' (get_3 p m1 a to c header typed drawn output) refl (added p m1 c 2 c' (omega arith)) (set_3 p m1 a to c header c' typed drawn output))
            (at_label (subst (λ (y : ℕ). Run (drop 16 SPELLED_ACTS) (now m1 a to c' header) y (state r.memory' r.locals' typed drawn output) r.count) last r.runs))))));
      }

  -- ---- all of it

  module _ (words : List (List ℕ)) (dict : HasSpellings p story words) (some : 3 ≤ f) (enough : 13 ≤ w) (memory : List ℕ) (cells : ℕ → ℕ) (h : Holds p.world.layout memory cells) (kept : IsKept p.world.layout.base story memory) (k o : ℕ) (letters : List ℕ) (many : length letters ≤ 200) (le : o + 1 ≤ k) (within : k + length letters ≤ 15945) (row : Row cells k letters) where
    abbrev a : ℕ
    a = at_cell k

    abbrev to : ℕ
    to = at_cell (k + length letters)

    abbrev c : ℕ
    c = at_cell o

    abbrev Result : Value → List Act → ℕ → ℕ → Type 0
    Result v acts d most = Writes v cells o acts (now memory a to c d) most

    with_number : (n : ℕ) → n < 16384 → number_spelled letters ≡ n → TellsNumber p 0 0 memory typed output drawn k letters → Result (leaf (Num n)) SPELLED_ACTS 0 (11 * length letters + 9)
    unfolding behind_label
    with_number n lt is r =
        let few = r.few in
        let room = has.mapped.room in
        cheaper (11 * length letters + 9) (omega arith) (front (r.count + 2) (λ i. suc r.count + suc i) (λ i. omega arith)
        (λ x s' i rest. calls {f' = 0} {w' = 0} {n = r.count} {n' = suc i} {xs = (a, to, 0)} {s2 = now memory a to c n} refl (rw (get_1 p memory a to c 0 typed drawn output, get_2 p memory a to c 0 typed drawn output) refl) (spelled_number_at p has) (omega arith) (omega arith) r.runs (set_4 p memory a to c 0 (number_spelled letters) typed drawn output ∙ ap (λ (y : ℕ). some_now (now memory a to c y)) is)
        (taken (tested p (now memory a to c n) comparisons.Equal (atoms.Var 4) (atoms.Num 65535) false n 65535 false (get_4 p memory a to c n typed drawn output) refl (ne_eqb n 65535 (λ (e : n ≡ 65535). (omega arith)))) refl rest))
        (one_cell (leaf (Num n)) n o a to memory cells refl (omega arith) h kept (omega arith)))

    -- no number: a word is looked for
    to_find : (v : Value) (most : ℕ) → number_spelled letters ≡ 65535 → TellsNumber p 0 0 memory typed output drawn k letters → (r : FindsWord p words 2 9 memory typed output drawn k letters) → Result v (drop 3 SPELLED_ACTS) (dict_word (word_from 0 words letters)) most → Result v SPELLED_ACTS 0 (11 * length letters + (length words * (31 * length letters + 16) + (31 * length letters + 15)) + 6 + most)
    to_find v most none q r rest =
        let few = q.few in
        let few' = r.few in
        let room = has.mapped.room in
        let y = dict_word (word_from 0 words letters) in
        cheaper (11 * length letters + (length words * (31 * length letters + 16) + (31 * length letters + 15)) + 6 + most) (omega arith) (front (q.count + r.count + 3) (λ i. suc q.count + suc (suc r.count + i)) (λ i. omega arith)
        (λ x s' i rest'. calls {f' = 0} {w' = 0} {n = q.count} {n' = suc (suc r.count + i)} {xs = (a, to, 0)} {s2 = now memory a to c 65535} refl (rw (get_1 p memory a to c 0 typed drawn output, get_2 p memory a to c 0 typed drawn output) refl) (spelled_number_at p has) (omega arith) (omega arith) q.runs (set_4 p memory a to c 0 (number_spelled letters) typed drawn output ∙ ap (λ (u : ℕ). some_now (now memory a to c u)) none)
        (passed (tested p (now memory a to c 65535) comparisons.Equal (atoms.Var 4) (atoms.Num 65535) false 65535 65535 true (get_4 p memory a to c 65535 typed drawn output) refl refl)
        (calls {f' = 2} {w' = 9} {n = r.count} {n' = i} {xs = (a, to, 0)} {s2 = now memory a to c y} refl (rw (get_1 p memory a to c 65535 typed drawn output, get_2 p memory a to c 65535 typed drawn output) refl) (find_word_at p has) (omega arith) (omega arith) r.runs (set_4 p memory a to c 65535 y typed drawn output) rest')))
        rest)

    with_word : (n : ℕ) → n < 8192 → Result (leaf (Word n)) (drop 3 SPELLED_ACTS) n 5
    with_word n lt =
        let room = has.mapped.room in
        let x = 16384 + n in
        front 2 (λ i. suc (suc i)) (λ i. omega arith)
        (λ v s' i rest. passed (tested p (now memory a to c n) comparisons.Equal (atoms.Var 4) (atoms.Num 65535) true n 65535 false (get_4 p memory a to c n typed drawn output) refl (ne_eqb n 65535 (λ (e : n ≡ 65535). (omega arith))))
        (done (computes p (now memory a to c n) (now memory a to c x) 4 functions.Add (atoms.Var 4) (atoms.Num 16384) n 16384 x (get_4 p memory a to c n typed drawn output) refl (added p memory n 16384 x (omega arith)) (set_4 p memory a to c n x typed drawn output))
        (at_label rest)))
        (one_cell (leaf (Word n)) x o a to memory cells refl (omega arith) h kept (omega arith))

    with_unknown : Result (leaf (Unknown letters)) (drop 3 SPELLED_ACTS) 65535 (6 * length letters + 8)
    unfolding behind_label
    with_unknown =
        cheaper (6 * length letters + 8) (omega arith) (front 1 (λ i. suc i) (λ i. omega arith)
        (λ v s' i rest. taken (tested p (now memory a to c 65535) comparisons.Equal (atoms.Var 4) (atoms.Num 65535) true 65535 65535 true (get_4 p memory a to c 65535 typed drawn output) refl refl) refl rest)
        (of_unknown letters memory cells k o 65535 h kept many le within row))

    abbrev all_most : ℕ
    all_most = length words * (31 * length letters + 16) + (50 * length letters + 40)

    spelled : Result (spelled_value words letters) SPELLED_ACTS 0 all_most
    spelled =
        let room = has.mapped.room in
        let q = tells_number p 0 0 memory typed output drawn cells h k letters (omega arith) (omega arith) row in
        by_number q (numbered letters)
      where
        by_look : TellsNumber p 0 0 memory typed output drawn k letters → number_spelled letters ≡ 65535 → FindsWord p words 2 9 memory typed output drawn k letters → Looked letters (word_from 0 words letters) → Result (word_from 0 words letters) SPELLED_ACTS 0 all_most
        by_look q none r (a_word n lt is) =
            let few = dict.few in
            subst (λ (v : Value). Result v SPELLED_ACTS 0 all_most) (sym is) (cheaper all_most (omega arith) (to_find (leaf (Word n)) 5 none q r (subst (λ (y : ℕ). Result (leaf (Word n)) (drop 3 SPELLED_ACTS) y 5) (sym (ap dict_word is)) (with_word n lt))))
        by_look q none r (unknown is) =
            subst (λ (v : Value). Result v SPELLED_ACTS 0 all_most) (sym is) (cheaper all_most (omega arith) (to_find (leaf (Unknown letters)) (6 * length letters + 8) none q r (subst (λ (y : ℕ). Result (leaf (Unknown letters)) (drop 3 SPELLED_ACTS) y (6 * length letters + 8)) (sym (ap dict_word is)) with_unknown)))

        by_number : TellsNumber p 0 0 memory typed output drawn k letters → Numbered letters → Result (spelled_value words letters) SPELLED_ACTS 0 all_most
        by_number q (a_number n lt is value) = subst (λ (v : Value). Result v SPELLED_ACTS 0 all_most) (sym (value words)) (cheaper all_most (omega arith) (with_number n lt is q))
        by_number q (no_number none value) =
            let room = has.mapped.room in
            let few = dict.few in
            subst (λ (v : Value). Result v SPELLED_ACTS 0 all_most) (sym (value words)) (by_look q none (find_works p has story words dict 2 9 (omega arith) (omega arith) memory typed output drawn cells h kept k letters (omega arith) (omega arith) row) (looked 0 words letters (omega arith)))

pub spelled_works : SpelledWorks
spelled_works p has story words dict f w some enough memory typed output drawn cells h kept k o letters not_none many low le within row = spelled p has story f w typed output drawn words dict some enough memory cells h kept k o letters many le within row
