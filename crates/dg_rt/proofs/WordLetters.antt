-- A character of a word of the program is read, and passed over.
use Rattle.std.proofs.Common.{◌≡◌, ℕ, suc, ◌+◌, ◌-◌, ◌*◌, ◌/◌, ◌%◌, ◌<◌, ◌≤◌, inl, inr, true, false, List, [], ◌∷◌, ◌++◌, drop, length, refl, ap, subst, arith}
use Rattle.std.proofs.lemmas.Bool.{lt-ltb, le-ltb, cases_lt}
use Rattle.std.proofs.Math.Utf8.{encode}
use Rattle.z_lang.specs.declared.act.Atom.TheVariants as atoms
use Rattle.z_lang.specs.declared.act.Comparison.TheVariants as comparisons
use Rattle.z_lang.specs.declared.act.Function.TheVariants as functions
use Rattle.z_lang.specs.State.{State, Program}
use Rattle.z_lang.specs.Acts.{computed}
use Rattle.z_lang.specs.Runs.{ActsRun as Runs, Returns, at_label, taken, passed, done, returns, behind_label}
use Rattle.z_lang.specs.Standing.{IsKept}
use Rattle.dg_rt.specs.declared.dictionary.TheConstants.{WORD_LETTER_ACTS, NEXT_LETTER_ACTS}
use Rattle.dg_rt.specs.Areas.{state}
use Rattle.dg_rt.specs.Dictionary.{BytesStand}
use Rattle.dg_rt.proofs.Following.{word, tested, computes, local_1, local_2, local_3, put_1, put_2, put_3}
use Rattle.dg_rt.proofs.Locals.{added, less_by, not_less_by}

-- ## The bytes of a character

pub data Encoded (c : ℕ) : Type 0 where
  one : c < 128 → encode c ≡ c ∷ [] → Encoded c
  two : (a b : ℕ) → 192 ≤ a → a < 224 → 128 ≤ b → b < 192 → c + 12416 ≡ 64 * a + b → encode c ≡ a ∷ b ∷ [] → Encoded c
  three : (a b d : ℕ) → 224 ≤ a → a < 240 → 128 ≤ b → b < 192 → 128 ≤ d → d < 192 → c + 925824 ≡ 4096 * a + 64 * b + d → encode c ≡ a ∷ b ∷ d ∷ [] → Encoded c

pub encoded : (c : ℕ) → c < 65536 → Encoded c
unfolding encode
encoded c lt =
    elim (cases_lt c 128) [
      | inl low ↦ one low (rw (lt-ltb c 128 low) refl)
      | inr le ↦ elim (cases_lt c 2048) [
        | inl mid ↦ two (192 + c / 64) (128 + c % 64) (omega arith) (omega arith) (omega arith) (omega arith) (omega arith) (rw (le-ltb c 128 le, lt-ltb c 2048 mid) refl)
        | inr le' ↦ three (224 + c / 4096) (128 + c / 64 % 64) (128 + c % 64) (omega arith) (omega arith) (omega arith) (omega arith) (omega arith) (omega arith) (omega arith) (rw (le-ltb c 128 le, le-ltb c 2048 le', lt-ltb c 65536 lt) refl)
      ]
    ]

-- ## The routines

pub multiplied : (p : Program) (memory : List ℕ) (x y z : ℕ) → x * y % 65536 ≡ z → computed p.world.layout memory functions.Mul x y ≡ word z
unfolding computed
multiplied p memory x y z e = ap word e

pub subtracted : (p : Program) (memory : List ℕ) (x y z : ℕ) → (x + (65536 - y)) % 65536 ≡ z → computed p.world.layout memory functions.Sub x y ≡ word z
unfolding computed
subtracted p memory x y z e = ap word e

-- The character was answered, or the place behind it, and nothing was changed.
pub record Read (p : Program) (f w : ℕ) (memory typed output : List ℕ) (drawn x c : ℕ) : Type 0 where
  pub locals' : List ℕ
  pub count : ℕ
  pub few : count ≤ 15
  pub runs : Runs p f w WORD_LETTER_ACTS WORD_LETTER_ACTS (state memory (x ∷ 0 ∷ 0 ∷ []) typed drawn output) (Returns c) (state memory locals' typed drawn output) count

pub record Passed (p : Program) (f w : ℕ) (memory typed output : List ℕ) (drawn x c : ℕ) : Type 0 where
  pub locals' : List ℕ
  pub count : ℕ
  pub few : count ≤ 7
  pub runs : Runs p f w NEXT_LETTER_ACTS NEXT_LETTER_ACTS (state memory (x ∷ 0 ∷ []) typed drawn output) (Returns (x + length (encode c))) (state memory locals' typed drawn output) count

module _ (p : Program) (story : List ℕ) (f w : ℕ) (memory typed output : List ℕ) (drawn x c : ℕ) (kept : IsKept p.world.layout.base story memory) (low : x < 32768) where
  abbrev st : ℕ → ℕ → ℕ → State
  st a b d = state memory (a ∷ b ∷ d ∷ []) typed drawn output

  abbrev st2 : ℕ → ℕ → State
  st2 a b = state memory (a ∷ b ∷ []) typed drawn output

  abbrev t : ℕ
  t = p.names.table 1

  reads_one : c < 128 → computed p.world.layout memory functions.Byte t x ≡ word c → Read p f w memory typed output drawn x c
  reads_one lt here = record {
    locals' = x ∷ c ∷ 0 ∷ [];
    count = 3;
    few = omega arith;
    runs = done (computes p (st x 0 0) (st x c 0) 2 functions.Byte (atoms.Table 1) (atoms.Var 1) t x c refl (local_1 p memory x (0 ∷ 0 ∷ []) typed drawn output) here (put_2 p memory x 0 c (0 ∷ []) typed drawn output))
        (passed (tested p (st x c 0) comparisons.Less (atoms.Var 2) (atoms.Num 128) false c 128 true (local_2 p memory x c (0 ∷ []) typed drawn output) refl (less_by c 128 (omega arith) (omega arith) lt))
        (returns (local_2 p memory x c (0 ∷ []) typed drawn output)));
  }

  -- up to the second test
  to_second : (a b v n : ℕ) (s' : State) → 128 ≤ a → a < 240 → b < 192 → computed p.world.layout memory functions.Byte t x ≡ word a → computed p.world.layout memory functions.Byte t (suc x) ≡ word b →
      Runs p f w WORD_LETTER_ACTS (drop 8 WORD_LETTER_ACTS) (st (suc x) (64 * a + b) b) (Returns v) s' n → Runs p f w WORD_LETTER_ACTS WORD_LETTER_ACTS (st x 0 0) (Returns v) s' (suc (suc (suc (suc (suc (suc n))))))
  unfolding behind_label
  to_second a b v n s' low_a high_a high_b here next rest =
      let h = 64 * a in
      let y = 64 * a + b in
      done (computes p (st x 0 0) (st x a 0) 2 functions.Byte (atoms.Table 1) (atoms.Var 1) t x a refl (local_1 p memory x (0 ∷ 0 ∷ []) typed drawn output) here (put_2 p memory x 0 a (0 ∷ []) typed drawn output))
      (taken (tested p (st x a 0) comparisons.Less (atoms.Var 2) (atoms.Num 128) false a 128 false (local_2 p memory x a (0 ∷ []) typed drawn output) refl (not_less_by a 128 (omega arith) (omega arith) low_a)) refl
      (done (computes p (st x a 0) (st (suc x) a 0) 1 functions.Add (atoms.Var 1) (atoms.Num 1) x 1 (suc x) (local_1 p memory x (a ∷ 0 ∷ []) typed drawn output) refl (added p memory x 1 (suc x) (omega arith)) (put_1 p memory x (suc x) (a ∷ 0 ∷ []) typed drawn output))
      (done (computes p (st (suc x) a 0) (st (suc x) a b) 3 functions.Byte (atoms.Table 1) (atoms.Var 1) t (suc x) b refl (local_1 p memory (suc x) (a ∷ 0 ∷ []) typed drawn output) next (put_3 p memory (suc x) a 0 b [] typed drawn output))
      (done (computes p (st (suc x) a b) (st (suc x) h b) 2 functions.Mul (atoms.Var 2) (atoms.Num 64) a 64 h (local_2 p memory (suc x) a (b ∷ []) typed drawn output) refl (multiplied p memory a 64 h (omega arith)) (put_2 p memory (suc x) a h (b ∷ []) typed drawn output))
      (done (computes p (st (suc x) h b) (st (suc x) y b) 2 functions.Add (atoms.Var 2) (atoms.Var 3) h b y (local_2 p memory (suc x) h (b ∷ []) typed drawn output) (local_3 p memory (suc x) h b [] typed drawn output) (added p memory h b y (omega arith)) (put_2 p memory (suc x) h y (b ∷ []) typed drawn output))
      rest)))))

  reads_two : (a b : ℕ) → 192 ≤ a → a < 224 → b < 192 → c + 12416 ≡ 64 * a + b → computed p.world.layout memory functions.Byte t x ≡ word a → computed p.world.layout memory functions.Byte t (suc x) ≡ word b → Read p f w memory typed output drawn x c
  reads_two a b low_a high_a high_b is here next =
      let y = 64 * a + b in
      record {
        locals' = suc x ∷ c ∷ b ∷ [];
        count = 9;
        few = omega arith;
        runs = to_second a b c 3 (st (suc x) c b) (omega arith) (omega arith) high_b here next
            (passed (tested p (st (suc x) y b) comparisons.Less (atoms.Var 2) (atoms.Num 14464) false y 14464 true (local_2 p memory (suc x) y (b ∷ []) typed drawn output) refl (less_by y 14464 (omega arith) (omega arith) (omega arith)))
            (done (computes p (st (suc x) y b) (st (suc x) c b) 2 functions.Sub (atoms.Var 2) (atoms.Num 12416) y 12416 c (local_2 p memory (suc x) y (b ∷ []) typed drawn output) refl (subtracted p memory y 12416 c (omega arith)) (put_2 p memory (suc x) y c (b ∷ []) typed drawn output))
            (returns (local_2 p memory (suc x) c (b ∷ []) typed drawn output))));
      }

  reads_three : (a b d : ℕ) → 224 ≤ a → a < 240 → 128 ≤ b → b < 192 → 128 ≤ d → d < 192 → c < 65536 → c + 925824 ≡ 4096 * a + 64 * b + d → computed p.world.layout memory functions.Byte t x ≡ word a → computed p.world.layout memory functions.Byte t (suc x) ≡ word b → computed p.world.layout memory functions.Byte t (suc (suc x)) ≡ word d → Read p f w memory typed output drawn x c
  unfolding behind_label
  reads_three a b d low_a high_a low_b high_b low_d high_d small is here next last =
      let y = 64 * a + b in
      let h = 64 * y % 65536 in
      let i = (64 * y + d) % 65536 in
      let x2 = suc (suc x) in
      record {
        locals' = x2 ∷ c ∷ d ∷ [];
        count = 13;
        few = omega arith;
        runs = to_second a b c 7 (st x2 c d) (omega arith) (omega arith) high_b here next
            (taken (tested p (st (suc x) y b) comparisons.Less (atoms.Var 2) (atoms.Num 14464) false y 14464 false (local_2 p memory (suc x) y (b ∷ []) typed drawn output) refl (not_less_by y 14464 (omega arith) (omega arith) (omega arith))) refl
            (done (computes p (st (suc x) y b) (st x2 y b) 1 functions.Add (atoms.Var 1) (atoms.Num 1) (suc x) 1 x2 (local_1 p memory (suc x) (y ∷ b ∷ []) typed drawn output) refl (added p memory (suc x) 1 x2 (omega arith)) (put_1 p memory (suc x) x2 (y ∷ b ∷ []) typed drawn output))
            (done (computes p (st x2 y b) (st x2 y d) 3 functions.Byte (atoms.Table 1) (atoms.Var 1) t x2 d refl (local_1 p memory x2 (y ∷ b ∷ []) typed drawn output) last (put_3 p memory x2 y b d [] typed drawn output))
            (done (computes p (st x2 y d) (st x2 h d) 2 functions.Mul (atoms.Var 2) (atoms.Num 64) y 64 h (local_2 p memory x2 y (d ∷ []) typed drawn output) refl (multiplied p memory y 64 h (omega arith)) (put_2 p memory x2 y h (d ∷ []) typed drawn output))
            (done (computes p (st x2 h d) (st x2 i d) 2 functions.Add (atoms.Var 2) (atoms.Var 3) h d i (local_2 p memory x2 h (d ∷ []) typed drawn output) (local_3 p memory x2 h d [] typed drawn output) (added p memory h d i (omega arith)) (put_2 p memory x2 h i (d ∷ []) typed drawn output))
            (done (computes p (st x2 i d) (st x2 c d) 2 functions.Sub (atoms.Var 2) (atoms.Num 8320) i 8320 c (local_2 p memory x2 i (d ∷ []) typed drawn output) refl (subtracted p memory i 8320 c (omega arith)) (put_2 p memory x2 i c (d ∷ []) typed drawn output))
            (returns (local_2 p memory x2 c (d ∷ []) typed drawn output))))))));
      }

  pub reads_character : (rest : List ℕ) → c < 65536 → BytesStand p story x (encode c ++ rest) → Read p f w memory typed output drawn x c
  reads_character rest small stand = by_form (encoded c small) stand
    where
      by_form : Encoded c → BytesStand p story x (encode c ++ rest) → Read p f w memory typed output drawn x c
      by_form (one lt is) h = let h' = subst (λ (l : List ℕ). BytesStand p story x (l ++ rest)) is h in reads_one lt (h'.0 memory kept)
      by_form (two a b la ha lb hb same is) h = let h' = subst (λ (l : List ℕ). BytesStand p story x (l ++ rest)) is h in reads_two a b la ha hb same (h'.0 memory kept) (h'.1.0 memory kept)
      by_form (three a b d la ha lb hb ld hd same is) h = let h' = subst (λ (l : List ℕ). BytesStand p story x (l ++ rest)) is h in reads_three a b d la ha lb hb ld hd small same (h'.0 memory kept) (h'.1.0 memory kept) (h'.1.1.0 memory kept)

  -- ---- passing over it

  first_byte : (a v n : ℕ) (s' : State) → computed p.world.layout memory functions.Byte t x ≡ word a → Runs p f w NEXT_LETTER_ACTS (drop 2 NEXT_LETTER_ACTS) (st2 (suc x) a) (Returns v) s' n → Runs p f w NEXT_LETTER_ACTS NEXT_LETTER_ACTS (st2 x 0) (Returns v) s' (suc (suc n))
  first_byte a v n s' here rest =
      done (computes p (st2 x 0) (st2 x a) 2 functions.Byte (atoms.Table 1) (atoms.Var 1) t x a refl (local_1 p memory x (0 ∷ []) typed drawn output) here (put_2 p memory x 0 a [] typed drawn output))
      (done (computes p (st2 x a) (st2 (suc x) a) 1 functions.Add (atoms.Var 1) (atoms.Num 1) x 1 (suc x) (local_1 p memory x (a ∷ []) typed drawn output) refl (added p memory x 1 (suc x) (omega arith)) (put_1 p memory x (suc x) (a ∷ []) typed drawn output))
      rest)

  steps_one : c < 128 → encode c ≡ c ∷ [] → computed p.world.layout memory functions.Byte t x ≡ word c → Passed p f w memory typed output drawn x c
  unfolding behind_label
  steps_one lt is here =
      let end : suc x ≡ x + length (encode c) = rw is (omega arith) in
      record {
        locals' = suc x ∷ c ∷ [];
        count = 4;
        few = omega arith;
        runs = subst (λ (y : ℕ). Runs p f w NEXT_LETTER_ACTS NEXT_LETTER_ACTS (st2 x 0) (Returns y) (st2 (suc x) c) 4) end
            (first_byte c (suc x) 2 (st2 (suc x) c) here
            (taken (tested p (st2 (suc x) c) comparisons.Less (atoms.Var 2) (atoms.Num 128) true c 128 true (local_2 p memory (suc x) c [] typed drawn output) refl (less_by c 128 (omega arith) (omega arith) lt)) refl
            (returns (local_1 p memory (suc x) (c ∷ []) typed drawn output))));
      }

  steps_two : (a b : ℕ) → 192 ≤ a → a < 224 → encode c ≡ a ∷ b ∷ [] → computed p.world.layout memory functions.Byte t x ≡ word a → Passed p f w memory typed output drawn x c
  unfolding behind_label
  steps_two a b low_a high_a is here =
      let x2 = suc (suc x) in
      let end : x2 ≡ x + length (encode c) = rw is (omega arith) in
      record {
        locals' = x2 ∷ a ∷ [];
        count = 6;
        few = omega arith;
        runs = subst (λ (y : ℕ). Runs p f w NEXT_LETTER_ACTS NEXT_LETTER_ACTS (st2 x 0) (Returns y) (st2 x2 a) 6) end
            (first_byte a x2 4 (st2 x2 a) here
            (passed (tested p (st2 (suc x) a) comparisons.Less (atoms.Var 2) (atoms.Num 128) true a 128 false (local_2 p memory (suc x) a [] typed drawn output) refl (not_less_by a 128 (omega arith) (omega arith) (omega arith)))
            (done (computes p (st2 (suc x) a) (st2 x2 a) 1 functions.Add (atoms.Var 1) (atoms.Num 1) (suc x) 1 x2 (local_1 p memory (suc x) (a ∷ []) typed drawn output) refl (added p memory (suc x) 1 x2 (omega arith)) (put_1 p memory (suc x) x2 (a ∷ []) typed drawn output))
            (taken (tested p (st2 x2 a) comparisons.Less (atoms.Var 2) (atoms.Num 224) true a 224 true (local_2 p memory x2 a [] typed drawn output) refl (less_by a 224 (omega arith) (omega arith) high_a)) refl
            (returns (local_1 p memory x2 (a ∷ []) typed drawn output))))));
      }

  steps_three : (a b d : ℕ) → 224 ≤ a → a < 240 → encode c ≡ a ∷ b ∷ d ∷ [] → computed p.world.layout memory functions.Byte t x ≡ word a → Passed p f w memory typed output drawn x c
  steps_three a b d low_a high_a is here =
      let x2 = suc (suc x) in
      let x3 = suc (suc (suc x)) in
      let end : x3 ≡ x + length (encode c) = rw is (omega arith) in
      record {
        locals' = x3 ∷ a ∷ [];
        count = 7;
        few = omega arith;
        runs = subst (λ (y : ℕ). Runs p f w NEXT_LETTER_ACTS NEXT_LETTER_ACTS (st2 x 0) (Returns y) (st2 x3 a) 7) end
            (first_byte a x3 5 (st2 x3 a) here
            (passed (tested p (st2 (suc x) a) comparisons.Less (atoms.Var 2) (atoms.Num 128) true a 128 false (local_2 p memory (suc x) a [] typed drawn output) refl (not_less_by a 128 (omega arith) (omega arith) (omega arith)))
            (done (computes p (st2 (suc x) a) (st2 x2 a) 1 functions.Add (atoms.Var 1) (atoms.Num 1) (suc x) 1 x2 (local_1 p memory (suc x) (a ∷ []) typed drawn output) refl (added p memory (suc x) 1 x2 (omega arith)) (put_1 p memory (suc x) x2 (a ∷ []) typed drawn output))
            (passed (tested p (st2 x2 a) comparisons.Less (atoms.Var 2) (atoms.Num 224) true a 224 false (local_2 p memory x2 a [] typed drawn output) refl (not_less_by a 224 (omega arith) (omega arith) low_a))
            (done (computes p (st2 x2 a) (st2 x3 a) 1 functions.Add (atoms.Var 1) (atoms.Num 1) x2 1 x3 (local_1 p memory x2 (a ∷ []) typed drawn output) refl (added p memory x2 1 x3 (omega arith)) (put_1 p memory x2 x3 (a ∷ []) typed drawn output))
            (at_label (returns (local_1 p memory x3 (a ∷ []) typed drawn output))))))));
      }

  pub passes_character : (rest : List ℕ) → c < 65536 → BytesStand p story x (encode c ++ rest) → Passed p f w memory typed output drawn x c
  passes_character rest small stand = by_form (encoded c small) stand
    where
      by_form : Encoded c → BytesStand p story x (encode c ++ rest) → Passed p f w memory typed output drawn x c
      by_form (one lt is) h = let h' = subst (λ (l : List ℕ). BytesStand p story x (l ++ rest)) is h in steps_one lt is (h'.0 memory kept)
      by_form (two a b la ha lb hb same is) h = let h' = subst (λ (l : List ℕ). BytesStand p story x (l ++ rest)) is h in steps_two a b la ha is (h'.0 memory kept)
      by_form (three a b d la ha lb hb ld hd same is) h = let h' = subst (λ (l : List ℕ). BytesStand p story x (l ++ rest)) is h in steps_three a b d la ha is (h'.0 memory kept)
