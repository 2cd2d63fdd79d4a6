-- Spellings are the same where their bytes are.
use Rattle.std.proofs.Common.{◌≡◌, ◌≢◌, ℕ, ◌<◌, inl, inr, false, List, [], ◌∷◌, ◌++◌, length, refl, arith}
use Rattle.std.specs.Prelude.{eqb}
use Rattle.std.proofs.lemmas.Bool.{eq-eqb, ne_eqb, cases_eq, and_right}
use Rattle.std.proofs.Math.Utf8.{encode}
use Rattle.dg_meaning.specs.Unify.{same_spelling}
use Rattle.dg_rt.proofs.WordLetters.{Encoded, one, two, three, encoded}

differ_first : (x y : ℕ) (xs ys : List ℕ) → x ≢ y → same_spelling (x ∷ xs) (y ∷ ys) ≡ false
differ_first x y xs ys ne = rw (ne_eqb x y ne) refl

differ_later : (x y : ℕ) (xs ys : List ℕ) → same_spelling xs ys ≡ false → same_spelling (x ∷ xs) (y ∷ ys) ≡ false
differ_later x y xs ys e = and_right (eqb x y) (same_spelling xs ys) e

pub same_on : (zs xs ys : List ℕ) → same_spelling (zs ++ xs) (zs ++ ys) ≡ same_spelling xs ys
same_on [] xs ys = refl
same_on (z ∷ zs) xs ys = rw (eq-eqb z z refl) (same_on zs xs ys)

-- Different characters have different bytes.
by_forms : (c l : ℕ) (xs ys : List ℕ) → c ≢ l → Encoded c → Encoded l → same_spelling (encode c ++ xs) (encode l ++ ys) ≡ false
by_forms c l xs ys ne (one lt is) (one lt' is') = rw (is, is') (differ_first c l xs ys ne)
by_forms c l xs ys ne (one lt is) (two a' b' la' ha' lb' hb' same' is') = rw (is, is') (differ_first c a' xs (b' ∷ ys) (λ (e : c ≡ a'). (omega arith)))
by_forms c l xs ys ne (one lt is) (three a' b' d' la' ha' lb' hb' ld' hd' same' is') = rw (is, is') (differ_first c a' xs (b' ∷ d' ∷ ys) (λ (e : c ≡ a'). (omega arith)))
by_forms c l xs ys ne (two a b la ha lb hb same is) (one lt' is') = rw (is, is') (differ_first a l (b ∷ xs) ys (λ (e : a ≡ l). (omega arith)))
by_forms c l xs ys ne (two a b la ha lb hb same is) (two a' b' la' ha' lb' hb' same' is') =
    rw (is, is') (elim (cases_eq a a') [
      | inl e ↦ differ_later a a' (b ∷ xs) (b' ∷ ys) (differ_first b b' xs ys (λ (q : b ≡ b'). ne (omega arith)))
      | inr ne' ↦ differ_first a a' (b ∷ xs) (b' ∷ ys) ne'
    ])
by_forms c l xs ys ne (two a b la ha lb hb same is) (three a' b' d' la' ha' lb' hb' ld' hd' same' is') = rw (is, is') (differ_first a a' (b ∷ xs) (b' ∷ d' ∷ ys) (λ (e : a ≡ a'). (omega arith)))
by_forms c l xs ys ne (three a b d la ha lb hb ld hd same is) (one lt' is') = rw (is, is') (differ_first a l (b ∷ d ∷ xs) ys (λ (e : a ≡ l). (omega arith)))
by_forms c l xs ys ne (three a b d la ha lb hb ld hd same is) (two a' b' la' ha' lb' hb' same' is') = rw (is, is') (differ_first a a' (b ∷ d ∷ xs) (b' ∷ ys) (λ (e : a ≡ a'). (omega arith)))
by_forms c l xs ys ne (three a b d la ha lb hb ld hd same is) (three a' b' d' la' ha' lb' hb' ld' hd' same' is') =
    rw (is, is') (elim (cases_eq a a') [
      | inl e ↦ elim (cases_eq b b') [
        | inl e' ↦ differ_later a a' (b ∷ d ∷ xs) (b' ∷ d' ∷ ys) (differ_later b b' (d ∷ xs) (d' ∷ ys) (differ_first d d' xs ys (λ (q : d ≡ d'). ne (omega arith))))
        | inr ne' ↦ differ_later a a' (b ∷ d ∷ xs) (b' ∷ d' ∷ ys) (differ_first b b' (d ∷ xs) (d' ∷ ys) ne')
      ]
      | inr ne' ↦ differ_first a a' (b ∷ d ∷ xs) (b' ∷ d' ∷ ys) ne'
    ])

pub apart : (c l : ℕ) (xs ys : List ℕ) → c < 65536 → l < 65536 → c ≢ l → same_spelling (encode c ++ xs) (encode l ++ ys) ≡ false
apart c l xs ys small small' ne = by_forms c l xs ys ne (encoded c small) (encoded l small')

-- A character has bytes.
pub some_behind : (l : ℕ) (ys : List ℕ) → l < 65536 → same_spelling [] (encode l ++ ys) ≡ false
some_behind l ys small = by_form (encoded l small)
  where
    by_form : Encoded l → same_spelling [] (encode l ++ ys) ≡ false
    by_form (one lt is) = rw is refl
    by_form (two a b la ha lb hb same is) = rw is refl
    by_form (three a b d la ha lb hb ld hd same is) = rw is refl

pub none_behind : (c : ℕ) (xs : List ℕ) → c < 65536 → same_spelling (encode c ++ xs) [] ≡ false
none_behind c xs small = by_form (encoded c small)
  where
    by_form : Encoded c → same_spelling (encode c ++ xs) [] ≡ false
    by_form (one lt is) = rw is refl
    by_form (two a b la ha lb hb same is) = rw is refl
    by_form (three a b d la ha lb hb ld hd same is) = rw is refl

pub longer_by : (c : ℕ) → c < 65536 → 0 < length (encode c)
longer_by c small = by_form (encoded c small)
  where
    by_form : Encoded c → 0 < length (encode c)
    by_form (one lt is) = rw is (omega arith)
    by_form (two a b la ha lb hb same is) = rw is (omega arith)
    by_form (three a b d la ha lb hb ld hd same is) = rw is (omega arith)
