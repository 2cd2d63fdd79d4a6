-- The letters of a word of the program are written into a row.
use Rattle.std.proofs.Common.{◌≡◌, ℕ, suc, ◌+◌, ◌*◌, ◌%◌, ◌<◌, ◌≤◌, inl, inr, Bool, true, false, List, [], ◌∷◌, ◌++◌, drop, length, get_or, Some, refl, sym, ap, ◌∙◌, subst, arith, length-append, append_assoc}
use Rattle.std.specs.Prelude.{All, ◌==◌, encode_utf8_all}
use Rattle.std.specs.Str.{chars, all_scalars}
use Rattle.std.proofs.lemmas.Bool.{cases_lt, cases_eq, eq-eqb, ne_eqb, lt-ltb, le-ltb}
use Rattle.std.proofs.lemmas.List.Elements.{All-head, All-tail}
use Rattle.std.proofs.lemmas.Str.{chars-nil, chars-encodes}
use Rattle.std.proofs.Math.Utf8.{encode, scalar_cases}
use Rattle.dg_base.specs.Sound.{IsPrintable, IsName}
use Rattle.dg_meaning.specs.Pieces.{shown_letter}
use Rattle.z_model.specs.Zscii.{is_character}
use Rattle.z_model.specs.Memory.{guarded, byte_in}
use Rattle.z_lang.specs.declared.act.Act.{Act}
use Rattle.z_lang.specs.declared.act.Atom.TheVariants as atoms
use Rattle.z_lang.specs.declared.act.Comparison.TheVariants as comparisons
use Rattle.z_lang.specs.declared.act.Function.TheVariants as functions
use Rattle.z_lang.specs.declared.act.Width.TheVariants as widths
use Rattle.z_lang.specs.State.{State, Program, unless_fault, variable, value, put, with_local}
use Rattle.z_lang.specs.Acts.{computed, answer_of}
use Rattle.z_lang.specs.Runs.{ActsRun as Runs, Returns, at_label, goes, taken, passed, done, returns, behind_label}
use Rattle.z_lang.specs.Standing.{IsKept}
use Rattle.dg_rt.specs.declared.joining.TheConstants.{WORD_LETTERS_ACTS}
use Rattle.dg_rt.specs.Cells.{at_cell, with_cell, replaced, Holds}
use Rattle.dg_rt.specs.Areas.{state}
use Rattle.dg_rt.specs.Copies.{Row}
use Rattle.dg_rt.specs.Dictionary.{spelling_at, BytesStand, HasSpellings}
use Rattle.dg_rt.specs.RunTime.{HasRunTime}
use Rattle.dg_rt.specs.Shapes.{ArePrinted}
use Rattle.dg_rt.proofs.Cells.{some_list, holds_with, writes_cell, other_cell, same_cell}
use Rattle.dg_rt.proofs.FindingWords.{stand_behind, AreSmall, name_small, next_at, low_at}
use Rattle.dg_rt.proofs.Following.{word, some_state, tested, computes, writes, local_1, local_2, local_3, put_1, put_2, put_3}
use Rattle.dg_rt.proofs.JoinedRows.{Puts, in_row, past_row, mapped}
use Rattle.dg_rt.proofs.LaySteps.{kept_cell}
use Rattle.dg_rt.proofs.Locals.{added, less_by, not_less_by}
use Rattle.dg_rt.proofs.WordLetters.{Encoded, one, two, three, encoded, multiplied, subtracted}
use Rattle.dg_rt.proofs.WordSpelled.{behind_words}

-- ## Names

scalars_in : (cs : List ℕ) → All IsPrintable cs → all_scalars cs ≡ true
scalars_in [] h = refl
scalars_in (c ∷ cs) h = rw ((All-head IsPrintable c cs h).scalar, scalars_in cs (All-tail IsPrintable c cs h)) refl

name_chars : (bytes : List ℕ) (name : IsName bytes) → chars bytes ≡ name.characters
name_chars bytes name = ap chars name.encoded ∙ chars-encodes name.characters (scalars_in name.characters name.printable)

is_printed : (c : ℕ) → IsPrintable c → is_character (shown_letter c) ≡ true
is_printed c is =
    let from = is.from in
    elim (scalar_cases c is.scalar) [
      | inl l ↦ rw (lt-ltb c 55296 (omega arith), lt-ltb 31 c (omega arith), ne_eqb c 127 is.no_delete, le-ltb 55295 c (omega arith)) refl
      | inr h ↦ (let a = h.0 in rw (le-ltb c 55296 (omega arith), le-ltb c 57344 a, lt-ltb 31 c (omega arith), ne_eqb c 127 is.no_delete, lt-ltb 55295 c (omega arith), le-ltb c 57344 a) refl)
    ]

are_printed : (cs : List ℕ) → All IsPrintable cs → ArePrinted cs
are_printed [] all = tt
are_printed (c ∷ cs) all = let is = All-head IsPrintable c cs all in let to = is.to in ((omega arith, is_printed c is), are_printed cs (All-tail IsPrintable c cs all))

-- ## Locals

fourth : (p : Program) (m : List ℕ) (a b c d : ℕ) (xs t : List ℕ) (n : ℕ) (o : List ℕ) → value p (state m (a ∷ b ∷ c ∷ d ∷ xs) t n o) (atoms.Var 4) ≡ word d
unfolding variable
fourth p m a b c d xs t n o = refl

fifth : (p : Program) (m : List ℕ) (a b c d e : ℕ) (xs t : List ℕ) (n : ℕ) (o : List ℕ) → value p (state m (a ∷ b ∷ c ∷ d ∷ e ∷ xs) t n o) (atoms.Var 5) ≡ word e
unfolding variable
fifth p m a b c d e xs t n o = refl

sixth : (p : Program) (m : List ℕ) (a b c d e u : ℕ) (t : List ℕ) (n : ℕ) (o : List ℕ) → value p (state m (a ∷ b ∷ c ∷ d ∷ e ∷ u ∷ []) t n o) (atoms.Var 6) ≡ word u
unfolding variable
sixth p m a b c d e u t n o = refl

put_four : (p : Program) (m : List ℕ) (a b c d e u x : ℕ) (t : List ℕ) (n : ℕ) (o : List ℕ) → put p 4 x (state m (a ∷ b ∷ c ∷ d ∷ e ∷ u ∷ []) t n o) ≡ some_state (state m (a ∷ b ∷ c ∷ x ∷ e ∷ u ∷ []) t n o)
unfolding put with_local
put_four p m a b c d e u x t n o = refl

put_five : (p : Program) (m : List ℕ) (a b c d e u x : ℕ) (t : List ℕ) (n : ℕ) (o : List ℕ) → put p 5 x (state m (a ∷ b ∷ c ∷ d ∷ e ∷ u ∷ []) t n o) ≡ some_state (state m (a ∷ b ∷ c ∷ d ∷ x ∷ u ∷ []) t n o)
unfolding put with_local
put_five p m a b c d e u x t n o = refl

put_six : (p : Program) (m : List ℕ) (a b c d e u x : ℕ) (t : List ℕ) (n : ℕ) (o : List ℕ) → put p 6 x (state m (a ∷ b ∷ c ∷ d ∷ e ∷ u ∷ []) t n o) ≡ some_state (state m (a ∷ b ∷ c ∷ d ∷ e ∷ x ∷ []) t n o)
unfolding put with_local
put_six p m a b c d e u x t n o = refl

-- ## One letter

module _ (p : Program) (has : HasRunTime p) (story : List ℕ) (f w : ℕ) (typed output : List ℕ) (drawn : ℕ) where
  abbrev t : ℕ
  t = p.names.table 1

  abbrev t1 : ℕ
  t1 = (p.names.table 1 + 1) % 65536

  abbrev t2 : ℕ
  t2 = (p.names.table 1 + 2) % 65536

  abbrev now : List ℕ → ℕ → ℕ → ℕ → ℕ → State
  now m a b c d = state m (a ∷ b ∷ c ∷ d ∷ t1 ∷ t2 ∷ []) typed drawn output

  abbrev Run : List Act → State → ℕ → State → ℕ → Type 0
  Run acts s x s' i = Runs p f w WORD_LETTERS_ACTS acts s (Returns x) s' i

  -- a byte of the table
  abbrev Byte : List ℕ → ℕ → ℕ → Type 0
  Byte m x b = computed p.world.layout m functions.Byte t x ≡ word b

  next_byte : (m : List ℕ) (x b : ℕ) → Byte m (suc x) b → computed p.world.layout m functions.Byte t1 x ≡ word b
  unfolding computed
  next_byte m x b e = ap (λ (a : ℕ). unless_fault (byte_in (guarded p.world.layout m) a)) (omega arith) ∙ e

  third_byte : (m : List ℕ) (x b : ℕ) → Byte m (suc (suc x)) b → computed p.world.layout m functions.Byte t2 x ≡ word b
  unfolding computed
  third_byte m x b e = ap (λ (a : ℕ). unless_fault (byte_in (guarded p.world.layout m) a)) (omega arith) ∙ e

  -- The letter of the first byte b of a character c at a place was read, up to where it is written.
  record Letter (memory : List ℕ) (x j b d c : ℕ) : Type 0 where
    d' : ℕ
    g : ℕ → ℕ
    le : (i : ℕ) → g i ≤ 11 + i
    runs : (v : ℕ) (s' : State) (i : ℕ) → Run (drop 20 WORD_LETTERS_ACTS) (now memory (x + length (encode c)) (at_cell j) c d') v s' i → Run (drop 8 WORD_LETTERS_ACTS) (now memory x (at_cell j) b d) v s' (g i)

  not_full : (m : List ℕ) (x j b d : ℕ) → j < 15800 → answer_of p (now m x (at_cell j) b d) (record { comparison = comparisons.Equal; first = atoms.Var 2; second = atoms.Num 31664; answer = true }) ≡ Some false
  not_full m x j b d lt = tested p (now m x (at_cell j) b d) comparisons.Equal (atoms.Var 2) (atoms.Num 31664) true (at_cell j) 31664 false (local_2 p m x (at_cell j) (b ∷ d ∷ t1 ∷ t2 ∷ []) typed drawn output) refl (ne_eqb (at_cell j) 31664 (λ (e : at_cell j ≡ 31664). (omega arith)))

  letter_one : (m : List ℕ) (x j d c : ℕ) → j < 15800 → x < 32768 → c < 128 → encode c ≡ c ∷ [] → Letter m x j c d c
  unfolding behind_label
  letter_one m x j d c room low lt is =
      let o = at_cell j in
      let x1 = x + length (encode c) in
      let next : x + 1 ≡ x1 = rw is refl in
      record {
        d' = d;
        g = λ i. suc (suc (suc (suc i)));
        le = λ i. omega arith;
        runs = λ v s' i rest. passed (not_full m x j c d room)
            (taken (tested p (now m x o c d) comparisons.Less (atoms.Var 3) (atoms.Num 128) true c 128 true (local_3 p m x o c (d ∷ t1 ∷ t2 ∷ []) typed drawn output) refl (less_by c 128 (omega arith) (omega arith) lt)) refl
            (done (computes p (now m x o c d) (now m x1 o c d) 1 functions.Add (atoms.Var 1) (atoms.Num 1) x 1 x1 (local_1 p m x (o ∷ c ∷ d ∷ t1 ∷ t2 ∷ []) typed drawn output) refl (added p m x 1 x1 (omega arith)) (put_1 p m x x1 (o ∷ c ∷ d ∷ t1 ∷ t2 ∷ []) typed drawn output))
            (goes refl rest)));
      }

  -- up to the second test
  to_second : (m : List ℕ) (x j d a b v i : ℕ) (s' : State) → j < 15800 → 128 ≤ a → a < 240 → b < 192 → Byte m (suc x) b → Run (drop 13 WORD_LETTERS_ACTS) (now m x (at_cell j) (64 * a + b) b) v s' i → Run (drop 8 WORD_LETTERS_ACTS) (now m x (at_cell j) a d) v s' (suc (suc (suc (suc (suc i)))))
  to_second m x j d a b v i s' room low_a high_a high_b next rest =
      let o = at_cell j in
      let h = 64 * a in
      let y = 64 * a + b in
      passed (not_full m x j a d room)
      (passed (tested p (now m x o a d) comparisons.Less (atoms.Var 3) (atoms.Num 128) true a 128 false (local_3 p m x o a (d ∷ t1 ∷ t2 ∷ []) typed drawn output) refl (not_less_by a 128 (omega arith) (omega arith) low_a))
      (done (computes p (now m x o a d) (now m x o a b) 4 functions.Byte (atoms.Var 5) (atoms.Var 1) t1 x b (fifth p m x o a d t1 (t2 ∷ []) typed drawn output) (local_1 p m x (o ∷ a ∷ d ∷ t1 ∷ t2 ∷ []) typed drawn output) (next_byte m x b next) (put_four p m x o a d t1 t2 b typed drawn output))
      (done (computes p (now m x o a b) (now m x o h b) 3 functions.Mul (atoms.Var 3) (atoms.Num 64) a 64 h (local_3 p m x o a (b ∷ t1 ∷ t2 ∷ []) typed drawn output) refl (multiplied p m a 64 h (omega arith)) (put_3 p m x o a h (b ∷ t1 ∷ t2 ∷ []) typed drawn output))
      (done (computes p (now m x o h b) (now m x o y b) 3 functions.Add (atoms.Var 3) (atoms.Var 4) h b y (local_3 p m x o h (b ∷ t1 ∷ t2 ∷ []) typed drawn output) (fourth p m x o h b (t1 ∷ t2 ∷ []) typed drawn output) (added p m h b y (omega arith)) (put_3 p m x o h y (b ∷ t1 ∷ t2 ∷ []) typed drawn output))
      rest))))

  letter_two : (m : List ℕ) (x j d c a b : ℕ) → j < 15800 → x < 32768 → 192 ≤ a → a < 224 → b < 192 → c + 12416 ≡ 64 * a + b → encode c ≡ a ∷ b ∷ [] → Byte m (suc x) b → Letter m x j a d c
  unfolding behind_label
  letter_two m x j d c a b room low low_a high_a high_b same is next =
      let o = at_cell j in
      let y = 64 * a + b in
      let x1 = x + length (encode c) in
      let end : x + 2 ≡ x1 = rw is refl in
      record {
        d' = b;
        g = λ i. suc (suc (suc (suc (suc (suc (suc (suc (suc i))))))));
        le = λ i. omega arith;
        runs = λ v s' i rest. to_second m x j d a b v (suc (suc (suc (suc i)))) s' room (omega arith) (omega arith) high_b next
            (taken (tested p (now m x o y b) comparisons.Less (atoms.Var 3) (atoms.Num 14464) true y 14464 true (local_3 p m x o y (b ∷ t1 ∷ t2 ∷ []) typed drawn output) refl (less_by y 14464 (omega arith) (omega arith) (omega arith))) refl
            (done (computes p (now m x o y b) (now m x o c b) 3 functions.Sub (atoms.Var 3) (atoms.Num 12416) y 12416 c (local_3 p m x o y (b ∷ t1 ∷ t2 ∷ []) typed drawn output) refl (subtracted p m y 12416 c (omega arith)) (put_3 p m x o y c (b ∷ t1 ∷ t2 ∷ []) typed drawn output))
            (done (computes p (now m x o c b) (now m x1 o c b) 1 functions.Add (atoms.Var 1) (atoms.Num 2) x 2 x1 (local_1 p m x (o ∷ c ∷ b ∷ t1 ∷ t2 ∷ []) typed drawn output) refl (added p m x 2 x1 (omega arith)) (put_1 p m x x1 (o ∷ c ∷ b ∷ t1 ∷ t2 ∷ []) typed drawn output))
            (goes refl rest))));
      }

  letter_three : (m : List ℕ) (x j d c a b e : ℕ) → j < 15800 → x < 32768 → 224 ≤ a → a < 240 → 128 ≤ b → b < 192 → 128 ≤ e → e < 192 → c < 65536 → c + 925824 ≡ 4096 * a + 64 * b + e → encode c ≡ a ∷ b ∷ e ∷ [] → Byte m (suc x) b → Byte m (suc (suc x)) e → Letter m x j a d c
  letter_three m x j d c a b e room low low_a high_a low_b high_b low_e high_e small same is next last =
      let o = at_cell j in
      let y = 64 * a + b in
      let h = 64 * y % 65536 in
      let z = (64 * y + e) % 65536 in
      let x1 = x + length (encode c) in
      let end : x + 3 ≡ x1 = rw is refl in
      record {
        d' = e;
        g = λ i. suc (suc (suc (suc (suc (suc (suc (suc (suc (suc (suc i))))))))));
        le = λ i. omega arith;
        runs = λ v s' i rest. to_second m x j d a b v (suc (suc (suc (suc (suc (suc i)))))) s' room (omega arith) (omega arith) high_b next
            (passed (tested p (now m x o y b) comparisons.Less (atoms.Var 3) (atoms.Num 14464) true y 14464 false (local_3 p m x o y (b ∷ t1 ∷ t2 ∷ []) typed drawn output) refl (not_less_by y 14464 (omega arith) (omega arith) (omega arith)))
            (done (computes p (now m x o y b) (now m x o y e) 4 functions.Byte (atoms.Var 6) (atoms.Var 1) t2 x e (sixth p m x o y b t1 t2 typed drawn output) (local_1 p m x (o ∷ y ∷ b ∷ t1 ∷ t2 ∷ []) typed drawn output) (third_byte m x e last) (put_four p m x o y b t1 t2 e typed drawn output))
            (done (computes p (now m x o y e) (now m x o h e) 3 functions.Mul (atoms.Var 3) (atoms.Num 64) y 64 h (local_3 p m x o y (e ∷ t1 ∷ t2 ∷ []) typed drawn output) refl (multiplied p m y 64 h (omega arith)) (put_3 p m x o y h (e ∷ t1 ∷ t2 ∷ []) typed drawn output))
            (done (computes p (now m x o h e) (now m x o z e) 3 functions.Add (atoms.Var 3) (atoms.Var 4) h e z (local_3 p m x o h (e ∷ t1 ∷ t2 ∷ []) typed drawn output) (fourth p m x o h e (t1 ∷ t2 ∷ []) typed drawn output) (added p m h e z (omega arith)) (put_3 p m x o h z (e ∷ t1 ∷ t2 ∷ []) typed drawn output))
            (done (computes p (now m x o z e) (now m x o c e) 3 functions.Sub (atoms.Var 3) (atoms.Num 8320) z 8320 c (local_3 p m x o z (e ∷ t1 ∷ t2 ∷ []) typed drawn output) refl (subtracted p m z 8320 c (omega arith)) (put_3 p m x o z c (e ∷ t1 ∷ t2 ∷ []) typed drawn output))
            (done (computes p (now m x o c e) (now m x1 o c e) 1 functions.Add (atoms.Var 1) (atoms.Num 3) x 3 x1 (local_1 p m x (o ∷ c ∷ e ∷ t1 ∷ t2 ∷ []) typed drawn output) refl (added p m x 3 x1 (omega arith)) (put_1 p m x x1 (o ∷ c ∷ e ∷ t1 ∷ t2 ∷ []) typed drawn output))
            (at_label rest)))))));
      }

  -- the first byte of a character, and the letter behind it
  record Begins (memory : List ℕ) (x j d c : ℕ) : Type 0 where
    b : ℕ
    is : Byte memory x b
    some : (b == 0) ≡ false
    low : b < 32768
    letter : j < 15800 → Letter memory x j b d c

  begins : (m : List ℕ) (x j d c : ℕ) (rest : List ℕ) → IsKept p.world.layout.base story m → x < 32768 → c < 65536 → 0 < c → BytesStand p story x (encode c ++ rest) → Begins m x j d c
  begins m x j d c rest kept low small above stand = by_form (encoded c small) stand
    where
      by_form : Encoded c → BytesStand p story x (encode c ++ rest) → Begins m x j d c
      by_form (one lt is) s =
          let s' = subst (λ (l : List ℕ). BytesStand p story x (l ++ rest)) is s in
          record { b = c; is = s'.0 m kept; some = ne_eqb c 0 (λ (e : c ≡ 0). (omega arith)); low = omega arith; letter = λ room. letter_one m x j d c room low lt is }
      by_form (two a b' la ha lb hb same' is) s =
          let s' = subst (λ (l : List ℕ). BytesStand p story x (l ++ rest)) is s in
          record { b = a; is = s'.0 m kept; some = ne_eqb a 0 (λ (e : a ≡ 0). (omega arith)); low = omega arith; letter = λ room. letter_two m x j d c a b' room low la ha hb same' is (s'.1.0 m kept) }
      by_form (three a b' e' la ha lb hb le' he same' is) s =
          let s' = subst (λ (l : List ℕ). BytesStand p story x (l ++ rest)) is s in
          record { b = a; is = s'.0 m kept; some = ne_eqb a 0 (λ (e : a ≡ 0). (omega arith)); low = omega arith; letter = λ room. letter_three m x j d c a b' e' room low la ha lb hb le' he small same' is (s'.1.0 m kept) (s'.1.1.0 m kept) }

  -- ## All of them

  abbrev From : List Act → State → ℕ → List ℕ → List ℕ → ℕ → Type 0
  From acts s x m l i = Run acts s x (state m l typed drawn output) i

  reads_next : (m : List ℕ) (x j c d b v i : ℕ) (s' : State) → Byte m x b → Run (drop 24 WORD_LETTERS_ACTS) (now m x (at_cell j) b d) v s' i → Run (drop 23 WORD_LETTERS_ACTS) (now m x (at_cell j) c d) v s' (suc i)
  reads_next m x j c d b v i s' is rest =
      done (computes p (now m x (at_cell j) c d) (now m x (at_cell j) b d) 3 functions.Byte (atoms.Table 1) (atoms.Var 1) t x b refl (local_1 p m x (at_cell j ∷ c ∷ d ∷ t1 ∷ t2 ∷ []) typed drawn output) is (put_3 p m x (at_cell j) c b (d ∷ t1 ∷ t2 ∷ []) typed drawn output)) rest

  is_last : (m : List ℕ) (x j b d : ℕ) (r : Bool) → (b == 0) ≡ r → answer_of p (now m x (at_cell j) b d) (record { comparison = comparisons.Equal; first = atoms.Var 3; second = atoms.Num 0; answer = false }) ≡ Some r
  is_last m x j b d r e = tested p (now m x (at_cell j) b d) comparisons.Equal (atoms.Var 3) (atoms.Num 0) false b 0 r (local_3 p m x (at_cell j) b (d ∷ t1 ∷ t2 ∷ []) typed drawn output) refl e

  -- the end of the spelling
  none_left : (m : List ℕ) (cells : ℕ → ℕ) (x j c d : ℕ) → Holds p.world.layout m cells → IsKept p.world.layout.base story m → j ≤ 15800 → Byte m x 0 → Puts p story cells j (Some []) 4 (From (drop 23 WORD_LETTERS_ACTS) (now m x (at_cell j) c d))
  none_left m cells x j c d h kept le is =
      let end : at_cell j ≡ at_cell (j + 0) = omega arith in
      in_row [] m (x ∷ at_cell j ∷ 0 ∷ d ∷ t1 ∷ t2 ∷ []) cells 3 refl tt (omega arith) h kept tt (λ i far. refl) (omega arith)
      (subst (λ (y : ℕ). Run (drop 23 WORD_LETTERS_ACTS) (now m x (at_cell j) c d) y (now m x (at_cell j) 0 d) 3) end
      (reads_next m x j c d 0 (at_cell j) 2 (now m x (at_cell j) 0 d) is
      (passed (is_last m x j 0 d true refl)
      (at_label (returns (local_2 p m x (at_cell j) (0 ∷ d ∷ t1 ∷ t2 ∷ []) typed drawn output))))))

  -- no room for a letter more
  too_many : (m : List ℕ) (cells : ℕ → ℕ) (x j c d : ℕ) (y : ℕ) (ys : List ℕ) → Holds p.world.layout m cells → IsKept p.world.layout.base story m → j ≡ 15800 → Begins m x j d y → Puts p story cells j (Some (y ∷ ys)) 4 (From (drop 23 WORD_LETTERS_ACTS) (now m x (at_cell j) c d))
  unfolding behind_label
  too_many m cells x j c d y ys h kept full r =
      past_row m (x ∷ at_cell j ∷ r.b ∷ d ∷ t1 ∷ t2 ∷ []) cells 31666 4 (λ xs e. let size : length (y ∷ ys) ≡ length xs = some_length (y ∷ ys) xs e in omega arith) h kept (λ i far. refl) (omega arith) (omega arith) (omega arith)
      (reads_next m x j c d r.b 31666 3 (now m x (at_cell j) r.b d) r.is
      (taken (is_last m x j r.b d false r.some) refl
      (taken (tested p (now m x (at_cell j) r.b d) comparisons.Equal (atoms.Var 2) (atoms.Num 31664) true (at_cell j) 31664 true (local_2 p m x (at_cell j) (r.b ∷ d ∷ t1 ∷ t2 ∷ []) typed drawn output) refl (eq-eqb (at_cell j) 31664 (omega arith))) refl
      (returns refl))))
    where
      some_length : (xs zs : List ℕ) → Some xs ≡ Some zs → length xs ≡ length zs
      some_length xs zs e = ap length (cc e)

  -- one letter more
  one_more : (m : List ℕ) (cells : ℕ → ℕ) (x j c d y : ℕ) (ys : List ℕ) → Holds p.world.layout m cells → IsKept p.world.layout.base story m → j < 15800 → ArePrinted (y ∷ ys) → (r : Begins m x j d y) → (l : Letter m x j r.b d y) →
      Puts p story (replaced cells j y) (suc j) (Some ys) 4 (From (drop 23 WORD_LETTERS_ACTS) (now (with_cell m j y) (x + length (encode y)) (at_cell (suc j)) y l.d')) →
      Puts p story cells j (Some (y ∷ ys)) 4 (From (drop 23 WORD_LETTERS_ACTS) (now m x (at_cell j) c d))
  unfolding behind_label
  one_more m cells x j c d y ys h kept lt fine r l rest = by_rest rest
    where
      small : y < 65536
      small = fine.0.0

      x1 : ℕ
      x1 = x + length (encode y)

      way : (v i : ℕ) (s' : State) → Run (drop 23 WORD_LETTERS_ACTS) (now (with_cell m j y) (x + length (encode y)) (at_cell (suc j)) y l.d') v s' i → Run (drop 23 WORD_LETTERS_ACTS) (now m x (at_cell j) c d) v s' (suc (suc (l.g (suc (suc i)))))
      way v i s' more =
          let room = has.mapped.room in
          let x1 = x + length (encode y) in
          let o = at_cell j in
          let o1 = at_cell (suc j) in
          let m1 = with_cell m j y in
          let d1 = l.d' in
          reads_next m x j c d r.b v (suc (l.g (suc (suc i)))) s' r.is
          (taken (is_last m x j r.b d false r.some) refl
          (l.runs v s' (suc (suc i))
          (done (writes p (now m x1 o y d1) widths.Word (atoms.Var 2) (atoms.Num 0) (atoms.Var 3) o 0 y m1 (local_2 p m x1 o (y ∷ d1 ∷ t1 ∷ t2 ∷ []) typed drawn output) refl (local_3 p m x1 o y (d1 ∷ t1 ∷ t2 ∷ []) typed drawn output) (writes_cell p.world.layout m cells o 0 y j h (omega arith) (omega arith)))
          (done (computes p (now m1 x1 o y d1) (now m1 x1 o1 y d1) 2 functions.Add (atoms.Var 2) (atoms.Num 2) o 2 o1 (local_2 p m1 x1 o (y ∷ d1 ∷ t1 ∷ t2 ∷ []) typed drawn output) refl (added p m1 o 2 o1 (omega arith)) (put_2 p m1 x1 o o1 (y ∷ d1 ∷ t1 ∷ t2 ∷ []) typed drawn output))
          (at_label more)))))

      by_rest : Puts p story (replaced cells j y) (suc j) (Some ys) 4 (From (drop 23 WORD_LETTERS_ACTS) (now (with_cell m j y) (x + length (encode y)) (at_cell (suc j)) y l.d')) → Puts p story cells j (Some (y ∷ ys)) 4 (From (drop 23 WORD_LETTERS_ACTS) (now m x (at_cell j) c d))
      by_rest (in_row xs m' l' c' count e fine' short h' kept' row others few runs) =
          let more = l.le (suc (suc count)) in
          let same : ys ≡ xs = cc e in
          let size : length ys ≡ length xs = ap length same in
          let end : at_cell (suc j + length xs) ≡ at_cell (j + length (y ∷ ys)) = omega arith in
          in_row (y ∷ ys) m' l' c' (suc (suc (l.g (suc (suc count))))) refl fine (omega arith) h' kept' (others j (λ z. (omega arith)) ∙ same_cell cells j y, subst (λ (zs : List ℕ). Row c' (suc j) zs) (sym same) row)
          (λ i far. others i (λ z. far (omega arith)) ∙ other_cell cells j y i (λ (q : i ≡ j). (let z = far (omega arith) in omega arith))) (omega arith)
          (subst (λ (v : ℕ). Run (drop 23 WORD_LETTERS_ACTS) (now m x (at_cell j) c d) v (state m' l' typed drawn output) (suc (suc (l.g (suc (suc count)))))) end (way (at_cell (suc j + length xs)) count (state m' l' typed drawn output) runs))
      by_rest (past_row m' l' c' v count not h' kept' others low high few runs) =
          let more = l.le (suc (suc count)) in
          past_row m' l' c' v (suc (suc (l.g (suc (suc count))))) (λ xs e. let same : y ∷ ys ≡ xs = cc e in let size : length (y ∷ ys) ≡ length xs = ap length same in let q = not ys refl in omega arith) h' kept'
          (λ i far. others i (λ z. far (omega arith)) ∙ other_cell cells j y i (λ (q : i ≡ j). (let z = far (omega arith) in omega arith))) low high (omega arith)
          (way v count (state m' l' typed drawn output) runs)

  letters : (cs : List ℕ) (m : List ℕ) (cells : ℕ → ℕ) (x j c d : ℕ) → Holds p.world.layout m cells → IsKept p.world.layout.base story m → j ≤ 15800 → AreSmall cs → ArePrinted cs → x + length (encode_utf8_all cs) < 32768 → BytesStand p story x (encode_utf8_all cs ++ 0 ∷ []) → Puts p story cells j (Some cs) 4 (From (drop 23 WORD_LETTERS_ACTS) (now m x (at_cell j) c d))
  letters [] m cells x j c d h kept le small fine low stand = none_left m cells x j c d h kept le (stand.0 m kept)
  letters (y ∷ ys) m cells x j c d h kept le small fine low stand =
      let total = length-append (encode y) (encode_utf8_all ys) in
      let stand' = subst (BytesStand p story x) (append_assoc (encode y) (encode_utf8_all ys) (0 ∷ [])) stand in
      let r = begins m x j d y (encode_utf8_all ys ++ 0 ∷ []) kept (omega arith) small.0.0 small.0.1 stand' in
      elim (cases_eq j 15800) [
        | inl full ↦ too_many m cells x j c d y ys h kept full r
        | inr not ↦ (let lt : j < 15800 = omega arith in
            let room = has.mapped.room in
            let l = r.letter lt in
            let x1 = x + length (encode y) in
            one_more m cells x j c d y ys h kept lt fine r l
            (letters ys (with_cell m j y) (replaced cells j y) x1 (suc j) y l.d' (holds_with p.world.layout m cells j y h (omega arith) small.0.0) (kept_cell p.world.layout.base story m j y (omega arith) kept) (omega arith) small.1 fine.1 (omega arith) (stand_behind p story x x1 (encode y) (encode_utf8_all ys ++ 0 ∷ []) refl stand')))
      ]

  -- ## The routine

  abbrev start : List ℕ → ℕ → ℕ → State
  start m n j = state m (n ∷ at_cell j ∷ 0 ∷ 0 ∷ 0 ∷ 0 ∷ []) typed drawn output

  module _ (words : List (List ℕ)) (dict : HasSpellings p story words) (memory : List ℕ) (cells : ℕ → ℕ) (h : Holds p.world.layout memory cells) (kept : IsKept p.world.layout.base story memory) (n j : ℕ) (le : j ≤ 15800) where
    abbrev Written : Type 0
    Written = Puts p story cells j (Some (chars (get_or words n []))) 12 (From WORD_LETTERS_ACTS (start memory n j))

    abbrev st : ℕ → ℕ → ℕ → ℕ → State
    st a c e u = state memory (a ∷ at_cell j ∷ c ∷ 0 ∷ e ∷ u ∷ []) typed drawn output

    reads_many : (v i : ℕ) (s' : State) → Run (drop 1 WORD_LETTERS_ACTS) (st n (length words) 0 0) v s' i → Run WORD_LETTERS_ACTS (start memory n j) v s' (suc i)
    reads_many v i s' rest =
        done (computes p (start memory n j) (st n (length words) 0 0) 3 functions.Word (atoms.Table 1) (atoms.Num 0) t 0 (length words) refl refl (dict.many memory kept) (put_3 p memory n (at_cell j) 0 (length words) (0 ∷ 0 ∷ 0 ∷ []) typed drawn output)) rest

    -- no word of the program
    behind_last : length words ≤ n → n < 32768 → Written
    unfolding behind_label
    behind_last ge small =
        let few = dict.few in
        let none : chars (get_or words n []) ≡ [] = ap chars (behind_words words n ge) ∙ chars-nil in
        let end : at_cell j ≡ at_cell (j + 0) = omega arith in
        in_row [] memory (n ∷ at_cell j ∷ length words ∷ 0 ∷ 0 ∷ 0 ∷ []) cells 3 (ap some_list none) tt (omega arith) h kept tt (λ i far. refl) (omega arith)
        (subst (λ (y : ℕ). Run WORD_LETTERS_ACTS (start memory n j) y (st n (length words) 0 0) 3) end
        (reads_many (at_cell j) 2 (st n (length words) 0 0)
        (taken (tested p (st n (length words) 0 0) comparisons.Less (atoms.Var 1) (atoms.Var 3) false n (length words) false (local_1 p memory n (at_cell j ∷ length words ∷ 0 ∷ 0 ∷ 0 ∷ []) typed drawn output) (local_3 p memory n (at_cell j) (length words) (0 ∷ 0 ∷ 0 ∷ []) typed drawn output) (not_less_by n (length words) small (omega arith) ge)) refl
        (returns (local_2 p memory n (at_cell j) (length words ∷ 0 ∷ 0 ∷ 0 ∷ []) typed drawn output)))))

    of_word : n < length words → Written
    unfolding behind_label
    of_word lt =
        let few = dict.few in
        let name = dict.names n lt in
        let x = spelling_at words n in
        let n1 = suc n in
        let cs = name.characters in
        let is = name_chars (get_or words n []) name in
        let size : length (get_or words n []) ≡ length (encode_utf8_all cs) = ap (λ (l : List ℕ). length l) name.encoded in
        let next = next_at words n lt in
        let top = low_at words (suc n) (omega arith) in
        let high = dict.small in
        let o = at_cell j in
        let many = length words in
        subst (λ (l : List ℕ). Puts p story cells j (Some l) 12 (From WORD_LETTERS_ACTS (start memory n j))) (sym is)
        (mapped 8 (λ i. suc (suc (suc (suc (suc (suc (suc i))))))) (λ i. omega arith)
        (λ v m' l' i rest. reads_many v (suc (suc (suc (suc (suc (suc i)))))) (state m' l' typed drawn output)
        (passed (tested p (st n many 0 0) comparisons.Less (atoms.Var 1) (atoms.Var 3) false n many true (local_1 p memory n (o ∷ many ∷ 0 ∷ 0 ∷ 0 ∷ []) typed drawn output) (local_3 p memory n o many (0 ∷ 0 ∷ 0 ∷ []) typed drawn output) (less_by n many (omega arith) (omega arith) lt))
        (done (computes p (st n many 0 0) (st n1 many 0 0) 1 functions.Add (atoms.Var 1) (atoms.Num 1) n 1 n1 (local_1 p memory n (o ∷ many ∷ 0 ∷ 0 ∷ 0 ∷ []) typed drawn output) refl (added p memory n 1 n1 (omega arith)) (put_1 p memory n n1 (o ∷ many ∷ 0 ∷ 0 ∷ 0 ∷ []) typed drawn output))
        (done (computes p (st n1 many 0 0) (st x many 0 0) 1 functions.Word (atoms.Table 1) (atoms.Var 1) t n1 x refl (local_1 p memory n1 (o ∷ many ∷ 0 ∷ 0 ∷ 0 ∷ []) typed drawn output) (dict.begins n lt memory kept) (put_1 p memory n1 x (o ∷ many ∷ 0 ∷ 0 ∷ 0 ∷ []) typed drawn output))
        (done (computes p (st x many 0 0) (st x many t1 0) 5 functions.Add (atoms.Table 1) (atoms.Num 1) t 1 t1 refl refl (added p memory t 1 t1 refl) (put_five p memory x o many 0 0 0 t1 typed drawn output))
        (done (computes p (st x many t1 0) (st x many t1 t2) 6 functions.Add (atoms.Table 1) (atoms.Num 2) t 2 t2 refl refl (added p memory t 2 t2 refl) (put_six p memory x o many 0 t1 0 t2 typed drawn output))
        (goes refl rest)))))))
        (letters cs memory cells x j many 0 h kept le (name_small (get_or words n []) name) (are_printed cs name.printable) (omega arith) (subst (λ (l : List ℕ). BytesStand p story x (l ++ 0 ∷ [])) name.encoded (dict.bytes n lt))))

    pub word_letters : n < 32768 → Written
    word_letters small = elim (cases_lt n (length words)) [ inl lt ↦ of_word lt | inr ge ↦ behind_last ge small ]
