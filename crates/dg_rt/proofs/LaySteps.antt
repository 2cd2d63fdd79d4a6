-- Laying a copy of a value on the heap: acts, and values without parts.
use Rattle.std.proofs.Common.{◌≡◌, ◌≢◌, ℕ, suc, ◌+◌, ◌*◌, ◌%◌, ◌<◌, ◌≤◌, Bool, true, false, List, [], ◌∷◌, ◌++◌, length, Some, refl, sym, ap, ◌∙◌, subst, arith, length-append}
use Rattle.std.specs.Prelude.{◌==◌, slice_set, ◌/◌}
use Rattle.std.proofs.lemmas.Bool.{eq-eqb, ne_eqb, cond-true, cond-false}
use Rattle.z_lang.specs.declared.act.Act.{Act}
use Rattle.z_lang.specs.declared.act.Act.TheVariants as acts
use Rattle.z_lang.specs.declared.act.Atom.{Atom}
use Rattle.z_lang.specs.declared.act.Atom.TheVariants as atoms
use Rattle.z_lang.specs.declared.act.Function.TheVariants as functions
use Rattle.z_lang.specs.declared.act.Comparison.TheVariants as comparisons
use Rattle.z_lang.specs.declared.act.Width.TheVariants as widths
use Rattle.z_lang.specs.State.{State, Program, value}
use Rattle.z_lang.specs.Acts.{answer_of, computed, does}
use Rattle.z_lang.specs.Runs.{ActsRun as Runs, Returns, taken, passed, done, returns, behind_label}
use Rattle.z_lang.specs.Standing.{IsKept}
use Rattle.dg_meaning.specs.Values.{Label, Num, Word, Object, Nil, Pair, Closure, Unknown, Value, Var, Node, Values, NoMore, More}
use Rattle.dg_meaning.specs.ValueCells.{count_of}
use Rattle.dg_meaning.specs.Copies.{copy_cells, all_copy_cells}
use Rattle.dg_meaning.specs.Letters.{letters_in}
use Rattle.dg_meaning.specs.Unify.{size}
use Rattle.dg_rt.specs.declared.copies.TheConstants.{COPY_IN_ACTS}
use Rattle.dg_rt.specs.Cells.{compared, at_cell, with_cell, replaced, Holds}
use Rattle.dg_rt.specs.Areas.{heap_at, state}
use Rattle.dg_rt.specs.Laying.{FormedAs, Formed, AllFormed, copy_word, WordsLie, LettersLie, BoxLies, Lies, AllLie}
use Rattle.dg_rt.specs.Copies.{words_of, Row}
use Rattle.dg_rt.specs.CopiesIn.{HasCaptures, Reading, CopiesIn}
use Rattle.dg_rt.proofs.Following.{word, some_state, tested, computes, writes, register, put_register}
use Rattle.dg_rt.proofs.Locals.{first, second, put_first, put_second, simple_is_positive, added}
use Rattle.dg_rt.proofs.Cells.{holds_with, reads_cell, writes_cell}
use Rattle.std.proofs.lemmas.List.{drop-set-lt}

-- ---- what lies there still lies there

pub words_keep : (at at' : ℕ → ℕ) (i lo : ℕ) (vs : Values) → ((k : ℕ) → i ≤ k → k < i + count_of vs → at' k ≡ at k) → WordsLie at i lo vs → WordsLie at' i lo vs
words_keep at at' i lo NoMore same l = tt
words_keep at at' i lo (More v vs) same l = (same i (omega arith) (omega arith) ∙ l.0, words_keep at at' (suc i) lo vs (λ k from to. same k (omega arith) (omega arith)) l.1)

pub letters_keep : (at at' : ℕ → ℕ) (i : ℕ) (xs : List ℕ) → ((k : ℕ) → i ≤ k → k < i + length xs → at' k ≡ at k) → LettersLie at i xs → LettersLie at' i xs
letters_keep at at' i [] same l = tt
letters_keep at at' i (x ∷ xs) same l = (same i (omega arith) (omega arith) ∙ l.0, letters_keep at at' (suc i) xs (λ k from to. same k (omega arith) (omega arith)) l.1)

pub box_keep : (captures : ℕ → ℕ) (at at' : ℕ → ℕ) (f : Label) (vs : Values) (lo : ℕ) → FormedAs captures f vs → ((k : ℕ) → lo ≤ k → k < lo + copy_cells (Node f vs) → at' k ≡ at k) → BoxLies at (lo + all_copy_cells vs) lo f vs → BoxLies at' (lo + all_copy_cells vs) lo f vs
box_keep captures at at' (Num n) vs lo fine same l = tt
box_keep captures at at' (Word n) vs lo fine same l = tt
box_keep captures at at' (Object n) vs lo fine same l = tt
box_keep captures at at' Nil vs lo fine same l = tt
box_keep captures at at' Pair (More h (More t NoMore)) lo fine same l = let k = lo + all_copy_cells (More h (More t NoMore)) in (same k (omega arith) (omega arith) ∙ l.0, words_keep at at' (k + 1) lo (More h (More t NoMore)) (λ j from to. same j (omega arith) (omega arith)) l.1)
box_keep captures at at' (Closure place) vs lo fine same l = let k = lo + all_copy_cells vs in (same k (omega arith) (omega arith) ∙ l.0, same (k + 1) (omega arith) (omega arith) ∙ l.1, words_keep at at' (k + 3) lo vs (λ j from to. same j (omega arith) (omega arith)) l.2)
box_keep captures at at' (Unknown xs) NoMore lo fine same l = let k = lo + all_copy_cells NoMore in (same k (omega arith) (omega arith) ∙ l.0, letters_keep at at' (k + 3) xs (λ j from to. same j (omega arith) (omega arith)) l.1)
box_keep captures at at' f vs lo fine same l = absurd fine

mutual
  pub lies_keep : (captures : ℕ → ℕ) (at at' : ℕ → ℕ) (v : Value) (lo : ℕ) → Formed captures v → ((k : ℕ) → lo ≤ k → k < lo + copy_cells v → at' k ≡ at k) → Lies at lo v → Lies at' lo v
  lies_keep captures at at' (Var x) lo fine same l = same lo (omega arith) (omega arith) ∙ l
  lies_keep captures at at' (Node f vs) lo fine same l = (box_keep captures at at' f vs lo fine.0 same l.0, all_keep captures at at' vs lo fine.1 (λ k from to. same k from (omega arith)) l.1)

  pub all_keep : (captures : ℕ → ℕ) (at at' : ℕ → ℕ) (vs : Values) (lo : ℕ) → AllFormed captures vs → ((k : ℕ) → lo ≤ k → k < lo + all_copy_cells vs → at' k ≡ at k) → AllLie at lo vs → AllLie at' lo vs
  all_keep captures at at' NoMore lo fine same l = tt
  all_keep captures at at' (More v vs) lo fine same l = (lies_keep captures at at' v (lo + all_copy_cells vs) fine.0 (λ k from to. same k (omega arith) (omega arith)) l.0, all_keep captures at at' vs lo fine.1 (λ k from to. same k (omega arith) (omega arith)) l.1)

-- ---- words that are the same

pub replaced_at : (cells : ℕ → ℕ) (k x : ℕ) → replaced cells k x k ≡ x
replaced_at cells k x = cond-true (k == k) x (cells k) (eq-eqb k k refl)

pub replaced_else : (cells : ℕ → ℕ) (k x j : ℕ) → j ≢ k → replaced cells k x j ≡ cells j
replaced_else cells k x j ne = cond-false (j == k) x (cells j) (ne_eqb j k ne)

set_kept : (base : ℕ) (story m : List ℕ) (i x : ℕ) → IsKept base story m → i < base → IsKept base story (slice_set m i x)
set_kept base story m i x kept lt = drop-set-lt base m i x lt ∙ kept

pub kept_cell : (base : ℕ) (story m : List ℕ) (k x : ℕ) → at_cell k + 1 < base → IsKept base story m → IsKept base story (with_cell m k x)
kept_cell base story m k x lt kept = set_kept base story (slice_set m (at_cell k) (x / 256)) (at_cell k + 1) (x % 256) (set_kept base story m (at_cell k) (x / 256) kept (omega arith)) lt

pub rows_front : (area : ℕ → ℕ) (r : ℕ) (xs ys : List ℕ) → Row area r (xs ++ ys) → Row area r xs
rows_front area r [] ys h = tt
rows_front area r (x ∷ xs) ys h = (h.0, rows_front area (suc r) xs ys h.1)

pub rows_back : (area : ℕ → ℕ) (r i : ℕ) (xs ys : List ℕ) → i ≡ r + length xs → Row area r (xs ++ ys) → Row area i ys
rows_back area r i [] ys e h = let same : r ≡ i = omega arith in subst (λ (k : ℕ). Row area k ys) same h
rows_back area r i (x ∷ xs) ys e h = rows_back area (suc r) i xs ys (omega arith) h.1

-- a copy's word is one
pub copy_word_small : (captures : ℕ → ℕ) (lo : ℕ) (v : Value) → Formed captures v → lo + copy_cells v ≤ 10000 → copy_word lo v < 65536
copy_word_small captures lo (Var x) fine few = omega arith
copy_word_small captures lo (Node (Num n) NoMore) fine few = let lt : n < 16384 = fine.0 in omega arith
copy_word_small captures lo (Node (Word n) NoMore) fine few = let lt : n < 8192 = fine.0 in omega arith
copy_word_small captures lo (Node (Object n) NoMore) fine few = let lt : n < 4096 = fine.0 in omega arith
copy_word_small captures lo (Node Nil NoMore) fine few = omega arith
copy_word_small captures lo (Node Pair vs) fine few = omega arith
copy_word_small captures lo (Node (Closure place) vs) fine few = omega arith
copy_word_small captures lo (Node (Unknown xs) vs) fine few = omega arith
copy_word_small captures lo (Node f vs) fine few = absurd fine.0

-- What stays while a copy is laid: the program, with how many values closures capture, the outside, and the area behind the trail.
pub record Laid : Type 0 where
  pub p : Program
  pub story : List ℕ
  pub captures : ℕ → ℕ
  pub has : HasCaptures p story captures
  pub typed : List ℕ
  pub output : List ℕ
  pub drawn : ℕ
  pub area : ℕ → ℕ

module _ (io : Laid) where
  open io use {p, story, captures, has, typed, output, drawn, area}

  abbrev pub M : Type 0
  M = Reading p story area

  abbrev pub in_m : M → List ℕ → State
  in_m m ls = state m.memory ls typed drawn output

  abbrev pub Run : ℕ → List Act → State → ℕ → State → ℕ → Type 0
  Run f acts s x s' i = Runs p f (5 * f) COPY_IN_ACTS acts s (Returns x) s' i

  -- ---- a word is written

  pub holds_then : (m : M) (k x : ℕ) → k < 12315 → x < 65536 → Holds p.world.layout (with_cell m.memory k x) (replaced m.cells k x)
  holds_then m k x lt small = let r = has.has.mapped.room in holds_with p.world.layout m.memory m.cells k x m.holds (omega arith) small

  pub kept_then : (m : M) (k x : ℕ) → k < 12315 → IsKept p.world.layout.base story (with_cell m.memory k x)
  kept_then m k x lt = let r = has.has.mapped.room in kept_cell p.world.layout.base story m.memory k x (omega arith) m.kept

  pub behind_then : (m : M) (k x : ℕ) → k < 12315 → (j : ℕ) → 12315 ≤ j → replaced m.cells k x j ≡ area j
  behind_then m k x lt j le = replaced_else m.cells k x j (λ (e : j ≡ k). (omega arith)) ∙ m.behind j le

  abbrev pub wrote : (m : M) (k x : ℕ) → k < 12315 → x < 65536 → M
  wrote m k x lt small = record { memory = with_cell m.memory k x; cells = replaced m.cells k x; holds = holds_then m k x lt small; kept = kept_then m k x lt; behind = behind_then m k x lt }

  -- ---- acts

  pub from_is : (m : M) (ls : List ℕ) → value p (in_m m ls) (atoms.Var 54) ≡ word (m.cells 38)
  from_is m ls = let r = has.has.mapped.room in register p (in_m m ls) m.cells 54 m.holds (omega arith) (omega arith) (omega arith)

  pub fill_is : (m : M) (ls : List ℕ) → value p (in_m m ls) (atoms.Var 55) ≡ word (m.cells 39)
  fill_is m ls = let r = has.has.mapped.room in register p (in_m m ls) m.cells 55 m.holds (omega arith) (omega arith) (omega arith)

  pub sub_is : (memory : List ℕ) (x y z : ℕ) → x ≡ z + y → x < 65536 → computed p.world.layout memory functions.Sub x y ≡ word z
  unfolding computed
  sub_is memory x y z e lt = ap word (omega arith)

  pub three_times : (memory : List ℕ) (x z : ℕ) → z ≡ 3 * x → z < 65536 → computed p.world.layout memory functions.Mul x 3 ≡ word z
  unfolding computed
  three_times memory x z e lt = ap word (omega arith)

  down : (m : M) (ls : List ℕ) (atom : Atom) (i q : ℕ) → value p (in_m m ls) atom ≡ word i → m.cells 39 ≡ q + i → (lt : 39 < 12315) (small : q < 65536) → does p (acts.Compute 55 functions.Sub (atoms.Var 55) atom) (in_m m ls) ≡ some_state (in_m (wrote m 39 q lt small) ls)
  down m ls atom i q e is lt small = computes p (in_m m ls) (in_m (wrote m 39 q lt small) ls) 55 functions.Sub (atoms.Var 55) atom (m.cells 39) i q (fill_is m ls) e (sub_is m.memory (m.cells 39) i q is (m.holds.words 39)) (put_register p (in_m m ls) 55 q m.holds.globals (omega arith) (omega arith))

  on : (m : M) (ls : List ℕ) (r : ℕ) → m.cells 38 ≡ at_cell r → (lt : 38 < 12315) (small : at_cell (suc r) < 65536) → does p (acts.Compute 54 functions.Add (atoms.Var 54) (atoms.Num 2)) (in_m m ls) ≡ some_state (in_m (wrote m 38 (at_cell (suc r)) lt small) ls)
  on m ls r e lt small = computes p (in_m m ls) (in_m (wrote m 38 (at_cell (suc r)) lt small) ls) 54 functions.Add (atoms.Var 54) (atoms.Num 2) (m.cells 38) 2 (at_cell (suc r)) (from_is m ls) refl (added p m.memory (m.cells 38) 2 (at_cell (suc r)) (omega arith)) (put_register p (in_m m ls) 54 (at_cell (suc r)) m.holds.globals (omega arith) (omega arith))

  pub fetch : (m : M) (r x : ℕ) → m.cells 38 ≡ at_cell r → 12315 ≤ r → area r ≡ x → at_cell r + 1 < p.world.layout.base → computed p.world.layout m.memory functions.Word (m.cells 38) 0 ≡ word x
  fetch m r x e le is lt = let l = m.holds.low in reads_cell p.world.layout m.memory m.cells (m.cells 38) 0 r m.holds (omega arith) lt ∙ ap word (m.behind r le ∙ is)

  store : (m : M) (ls : List ℕ) (a : ℕ) (b c : Atom) (ptr q x : ℕ) → value p (in_m m ls) b ≡ word ptr → value p (in_m m ls) c ≡ word x → (a + 2 * ptr) % 65536 ≡ at_cell (heap_at + q) → (lt : heap_at + q < 12315) (small : x < 65536) → does p (acts.Write widths.Word (atoms.Num a) b c) (in_m m ls) ≡ some_state (in_m (wrote m (heap_at + q) x lt small) ls)
  store m ls a b c ptr q x eb ec e lt small = let r = has.has.mapped.room in writes p (in_m m ls) widths.Word (atoms.Num a) b c a ptr x (with_cell m.memory (heap_at + q) x) refl eb ec (writes_cell p.world.layout m.memory m.cells a ptr x (heap_at + q) m.holds e (omega arith))

  abbrev pub five : ℕ → ℕ → ℕ → ℕ → ℕ → List ℕ
  five a b c d e = a ∷ b ∷ c ∷ d ∷ e ∷ []

  -- the copy's place and a number are a box's or a variable's word
  pub word_2 : (m : M) (a b c d e i q : ℕ) → m.cells 39 ≡ q → q + i < 65536 → does p (acts.Compute 2 functions.Add (atoms.Var 55) (atoms.Num i)) (in_m m (five a b c d e)) ≡ some_state (in_m m (five a (i + q) c d e))
  word_2 m a b c d e i q is lt = computes p (in_m m (five a b c d e)) (in_m m (five a (i + q) c d e)) 2 functions.Add (atoms.Var 55) (atoms.Num i) (m.cells 39) i (i + q) (fill_is m (five a b c d e)) refl (added p m.memory (m.cells 39) i (i + q) (omega arith)) (put_second p m.memory a b c d e (i + q) typed drawn output)

  pub read_1 : (m : M) (a b c d e r x : ℕ) → m.cells 38 ≡ at_cell r → 12315 ≤ r → area r ≡ x → at_cell r + 1 < p.world.layout.base → does p (acts.Compute 1 functions.Word (atoms.Var 54) (atoms.Num 0)) (in_m m (five a b c d e)) ≡ some_state (in_m m (five x b c d e))
  read_1 m a b c d e r x from le is lt = computes p (in_m m (five a b c d e)) (in_m m (five x b c d e)) 1 functions.Word (atoms.Var 54) (atoms.Num 0) (m.cells 38) 0 x (from_is m (five a b c d e)) refl (fetch m r x from le is lt) (put_first p m.memory a b c d e x typed drawn output)

  pub first_less : (m : M) (a b c d e k : ℕ) (t answer : Bool) → compared comparisons.Less a k ≡ t → answer_of p (in_m m (five a b c d e)) (record { comparison = comparisons.Less; first = atoms.Var 1; second = atoms.Num k; answer = answer }) ≡ Some t
  first_less m a b c d e k t answer q = tested p (in_m m (five a b c d e)) comparisons.Less (atoms.Var 1) (atoms.Num k) answer a k t (first p m.memory a b c d e typed drawn output) refl q

  pub first_is : (m : M) (a b c d e k : ℕ) (t answer : Bool) → (a == k) ≡ t → answer_of p (in_m m (five a b c d e)) (record { comparison = comparisons.Equal; first = atoms.Var 1; second = atoms.Num k; answer = answer }) ≡ Some t
  first_is m a b c d e k t answer q = tested p (in_m m (five a b c d e)) comparisons.Equal (atoms.Var 1) (atoms.Num k) answer a k t (first p m.memory a b c d e typed drawn output) refl q

  -- ---- the cells at hand

  pub record InArea (r : ℕ) (xs : List ℕ) : Type 0 where
    pub low : 12315 ≤ r
    pub within : at_cell (r + length xs) ≤ p.world.layout.base
    pub small : at_cell (r + length xs) < 65536
    pub row : Row area r xs

  pub area_front : (r : ℕ) (xs ys : List ℕ) → InArea r (xs ++ ys) → InArea r xs
  area_front r xs ys i = let n = length-append xs ys in let a = i.within in let b = i.small in record { low = i.low; within = omega arith; small = omega arith; row = rows_front area r xs ys i.row }

  pub area_back : (r i : ℕ) (xs ys : List ℕ) → i ≡ r + length xs → InArea r (xs ++ ys) → InArea i ys
  area_back r i xs ys e h = let n = length-append xs ys in let a = h.within in let b = h.small in let l = h.low in record { low = omega arith; within = omega arith; small = omega arith; row = rows_back area r i xs ys e h.row }

  abbrev pub price : Value → ℕ
  price v = 24 * size v + 8 * letters_in v

  abbrev pub Copy : ℕ → Value → Type 0
  Copy f v = (m : M) (r lo : ℕ) → InArea r (words_of v) → m.cells 38 ≡ at_cell r → m.cells 39 ≡ lo + copy_cells v → lo + copy_cells v ≤ 10000 → CopiesIn p story area f COPY_IN_ACTS typed output drawn m (0 ∷ 0 ∷ 0 ∷ 0 ∷ 0 ∷ []) r lo v 4 (price v)

  -- ---- a value's own word, and a variable

  pub simple : (f x : ℕ) (v : Value) → words_of v ≡ x ∷ [] → x < 32768 → x ≢ 28673 → copy_cells v ≡ 0 → ((lo : ℕ) → copy_word lo v ≡ x) → ((at : ℕ → ℕ) (lo : ℕ) → Lies at lo v) → 1 ≤ size v → Copy f v
  simple f x v is lt ne none its lie some m r lo inside from fill room =
      let inside' : InArea r (x ∷ []) = subst (InArea r) is inside in
      let low = inside'.low in
      let in_base = inside'.within in
      let small = inside'.small in
      let n : length (words_of v) ≡ 1 = ap (λ (l : List ℕ). length l) is in
      let m1 = wrote m 38 (at_cell (suc r)) (omega arith) (omega arith) in
      record {
        m' = m1;
        locals' = five x 0 0 0 0;
        count = 5;
        runs = subst (λ (y : ℕ). Run f COPY_IN_ACTS (in_m m (five 0 0 0 0 0)) y (in_m m1 (five x 0 0 0 0)) 5) (sym (its lo))
            (done (read_1 m 0 0 0 0 0 r x from low inside'.row.0 (omega arith))
            (done (on m (five x 0 0 0 0) r from (omega arith) (omega arith))
            (passed (first_less m1 x 0 0 0 0 0 false true (simple_is_positive x lt))
            (passed (first_is m1 x 0 0 0 0 28673 false true (ne_eqb x 28673 ne)) (returns (first p m1.memory x 0 0 0 0 typed drawn output))))));
        from = replaced_at m.cells 38 (at_cell (suc r)) ∙ (omega arith);
        fill = replaced_else m.cells 38 (at_cell (suc r)) 39 (λ e. (omega arith)) ∙ fill ∙ (omega arith);
        lies = lie (λ k. m1.cells (heap_at + k)) lo;
        others = λ k ne36 ne37 far. replaced_else m.cells 38 (at_cell (suc r)) k ne36;
        few = omega arith;
      }

  pub variable : (f y : ℕ) → Copy f (Var y)
  unfolding behind_label
  variable f y m r lo inside from fill room =
      let low = inside.low in
      let in_base = inside.within in
      let small = inside.small in
      let m1 = wrote m 38 (at_cell (suc r)) (omega arith) (omega arith) in
      let fill1 : m1.cells 39 ≡ lo + 1 = replaced_else m.cells 38 (at_cell (suc r)) 39 (λ e. (omega arith)) ∙ fill in
      let m2 = wrote m1 39 lo (omega arith) (omega arith) in
      let fill2 : m2.cells 39 ≡ lo = replaced_at m1.cells 39 lo in
      let ref = 32768 + lo in
      let m3 = wrote m2 (heap_at + lo) ref (omega arith) (omega arith) in
      record {
        m' = m3;
        locals' = five 32768 ref 0 0 0;
        count = 9;
        runs = done (read_1 m 0 0 0 0 0 r 32768 from low inside.row.0 (omega arith))
            (done (on m (five 32768 0 0 0 0) r from (omega arith) (omega arith))
            (taken (first_less m1 32768 0 0 0 0 0 true true refl) refl
            (passed (first_less m1 32768 0 0 0 0 49152 true false refl)
            (passed (first_is m1 32768 0 0 0 0 32768 true false refl)
            (done (down m1 (five 32768 0 0 0 0) (atoms.Num 1) 1 lo refl fill1 (omega arith) (omega arith))
            (done (word_2 m2 32768 0 0 0 0 32768 lo fill2 (omega arith))
            (done (store m2 (five 32768 ref 0 0 0) 670 (atoms.Var 2) (atoms.Var 2) ref lo ref (second p m2.memory 32768 ref 0 0 0 typed drawn output) (second p m2.memory 32768 ref 0 0 0 typed drawn output) (omega arith) (omega arith) (omega arith))
            (returns (second p m3.memory 32768 ref 0 0 0 typed drawn output)))))))));
        from = replaced_else m2.cells (heap_at + lo) ref 38 (λ e. (omega arith)) ∙ replaced_else m1.cells 39 lo 38 (λ e. (omega arith)) ∙ replaced_at m.cells 38 (at_cell (suc r)) ∙ (omega arith);
        fill = replaced_else m2.cells (heap_at + lo) ref 39 (λ e. (omega arith)) ∙ fill2;
        lies = replaced_at m2.cells (heap_at + lo) ref;
        others = λ k ne36 ne37 far. replaced_else m2.cells (heap_at + lo) ref k (λ e. (let z = far (omega arith) in omega arith)) ∙ replaced_else m1.cells 39 lo k ne37 ∙ replaced_else m.cells 38 (at_cell (suc r)) k ne36;
        few = omega arith;
      }

  -- ---- steps that write a word

  pub record Did (act : Act) (m : M) (ls : List ℕ) (k x : ℕ) : Type 0 where
    pub m' : M
    pub is : does p act (in_m m ls) ≡ some_state (in_m m' ls)
    pub at : m'.cells k ≡ x
    pub keeps : (j : ℕ) → j ≢ k → m'.cells j ≡ m.cells j

  abbrev pub Down : Atom → Act
  Down atom = acts.Compute 55 functions.Sub (atoms.Var 55) atom

  abbrev pub On : Act
  On = acts.Compute 54 functions.Add (atoms.Var 54) (atoms.Num 2)

  abbrev pub Store : ℕ → Atom → Atom → Act
  Store a b c = acts.Write widths.Word (atoms.Num a) b c

  pub did_down : (m : M) (ls : List ℕ) (atom : Atom) (i q : ℕ) → value p (in_m m ls) atom ≡ word i → m.cells 39 ≡ q + i → q < 65536 → Did (Down atom) m ls 39 q
  did_down m ls atom i q e is small = record { m' = wrote m 39 q (omega arith) small; is = down m ls atom i q e is (omega arith) small; at = replaced_at m.cells 39 q; keeps = replaced_else m.cells 39 q }

  pub did_on : (m : M) (ls : List ℕ) (r : ℕ) → m.cells 38 ≡ at_cell r → at_cell (suc r) < 65536 → Did On m ls 38 (at_cell (suc r))
  did_on m ls r e small = record { m' = wrote m 38 (at_cell (suc r)) (omega arith) small; is = on m ls r e (omega arith) small; at = replaced_at m.cells 38 (at_cell (suc r)); keeps = replaced_else m.cells 38 (at_cell (suc r)) }

  pub did_store : (m : M) (ls : List ℕ) (a : ℕ) (b c : Atom) (ptr q x : ℕ) → value p (in_m m ls) b ≡ word ptr → value p (in_m m ls) c ≡ word x → (a + 2 * ptr) % 65536 ≡ at_cell (heap_at + q) → q < 10000 → x < 65536 → Did (Store a b c) m ls (heap_at + q) x
  did_store m ls a b c ptr q x eb ec e lt small = record { m' = wrote m (heap_at + q) x (omega arith) small; is = store m ls a b c ptr q x eb ec e (omega arith) small; at = replaced_at m.cells (heap_at + q) x; keeps = replaced_else m.cells (heap_at + q) x }
