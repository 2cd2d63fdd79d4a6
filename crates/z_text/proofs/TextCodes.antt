-- The codes of a text that codes print are these.
use Rattle.std.proofs.Common.{◌≡◌, ℕ, zero, suc, ◌+◌, ◌-◌, ◌/◌, ◌%◌, ◌<◌, ◌≤◌, ◌⊎◌, inl, inr, Bool, true, false, cond, eqb, ltb, List, [], ◌∷◌, ◌++◌, flat_map, All, Option, Some, None, IsTrue, refl, ap, ◌∙◌, arith}
use Rattle.std.specs.Prelude.{encode_utf8, ◌&&◌, ◌||◌, slice_index}
use lib.Utf8.{encode}
use Rattle.std.proofs.lemmas.Bool.{eqb-true, ne_eqb, lt-ltb, le-ltb, ltb-true, ltb-false, cases_lt}
use Rattle.z_model.specs.Zscii.{code_utf8}
use Rattle.dg_base.specs.Typed.{extra}
use Rattle.z_text.specs.Encode.{has_code}
use Rattle.dg_base.specs.Typed.{place_of, place_from}
use Rattle.z_text.specs.Codes.{codes_from, wide_code, wide_character, ascii_code}

-- ---- the extra characters, each by computing

is_at : Option ℕ → ℕ → Bool
is_at None k = false
is_at (Some j) k = eqb j k

abbrev all_below : (ℕ → Bool) → ℕ → Bool
all_below p zero = true
all_below p (suc n) = cond (p n) (all_below p n) false

all_below_at : (p : ℕ → Bool) (n k : ℕ) → all_below p n ≡ true → k < n → p k ≡ true
all_below_at p zero k e lt = absurd (omega arith)
all_below_at p (suc n) k e lt = by_test (p n) refl (λ h. λ less. all_below_at p n k h less) e
  where
    by_test : (t : Bool) → p n ≡ t → (all_below p n ≡ true → k < n → p k ≡ true) → cond t (all_below p n) false ≡ true → p k ≡ true
    by_test false is lower e = absurd cc
    by_test true is lower e = elim (cases_lt k n) [ inl less ↦ lower e less | inr more ↦ (let same : k ≡ n = omega arith in ap p same ∙ is) ]

abbrev is_wide : ℕ → Bool
is_wide k = cond (ltb (slice_index extra k) 128) false (cond (ltb (slice_index extra k) 2048) (is_at (place_of (slice_index extra k) extra) k) false)

all_wide : all_below is_wide 69 ≡ true
unfolding is_at place_from
all_wide = refl

record IsWide (k e : ℕ) : Type 0 where
  above : 128 ≤ e
  below : e < 2048
  place : place_of e extra ≡ Some k

at_is : (o : Option ℕ) (k : ℕ) → is_at o k ≡ true → o ≡ Some k
unfolding is_at
at_is None k e = absurd cc
at_is (Some j) k e = ap Some (eqb-true j k e)

wide_facts : (k e : ℕ) (low high : Bool) → ltb e 128 ≡ low → ltb e 2048 ≡ high → cond low false (cond high (is_at (place_of e extra) k) false) ≡ true → IsWide k e
wide_facts k e true high l h is = absurd cc
wide_facts k e false true l h is = record { above = ltb-false e 128 l; below = ltb-true e 2048 h; place = at_is (place_of e extra) k is }
wide_facts k e false false l h is = absurd cc

wide_at : (k : ℕ) → k < 69 → IsWide k (slice_index extra k)
wide_at k lt = wide_facts k (slice_index extra k) (ltb (slice_index extra k) 128) (ltb (slice_index extra k) 2048) refl refl (all_below_at is_wide 69 k all_wide lt)

-- ---- one character

ascii_read : (byte : ℕ) (rest : List ℕ) → byte < 128 → codes_from None (byte ∷ rest) ≡ ascii_code byte ∷ codes_from None rest
unfolding codes_from
ascii_read byte rest lt = rw (lt-ltb byte 128 lt) refl

wide_read : (lead byte : ℕ) (rest : List ℕ) → 128 ≤ lead → codes_from None (lead ∷ byte ∷ rest) ≡ wide_code lead byte ∷ codes_from None rest
unfolding codes_from
wide_read lead byte rest le = rw (le-ltb lead 128 le) refl

ascii_encoded : (c : ℕ) → c < 128 → encode_utf8 c ≡ c ∷ []
unfolding encode
ascii_encoded c lt = rw (lt-ltb c 128 lt) refl

wide_encoded : (c : ℕ) → 128 ≤ c → c < 2048 → encode_utf8 c ≡ (192 + c / 64) ∷ (128 + c % 64) ∷ []
unfolding encode
wide_encoded c le lt = rw (le-ltb c 128 le, lt-ltb c 2048 lt) refl

newline_read : (rest : List ℕ) → codes_from None (code_utf8 13 ++ rest) ≡ 13 ∷ codes_from None rest
unfolding code_utf8 encode codes_from
newline_read rest = refl

plain_read : (c : ℕ) (rest : List ℕ) → 31 < c → c < 127 → codes_from None (code_utf8 c ++ rest) ≡ c ∷ codes_from None rest
unfolding code_utf8
plain_read c rest above below =
    let not_zero : eqb c 0 ≡ false = ne_eqb c 0 (λ e. absurd (omega arith)) in
    let not_line : eqb c 13 ≡ false = ne_eqb c 13 (λ e. absurd (omega arith)) in
    let same : ascii_code c ≡ c = (rw (ne_eqb c 10 (λ e. absurd (omega arith))) refl) in
    rw (not_zero, not_line, lt-ltb c 127 below, ascii_encoded c (omega arith)) (ascii_read c rest (omega arith) ∙ ap (λ (x : ℕ). x ∷ codes_from None rest) same)

extra_read : (c : ℕ) (rest : List ℕ) → 154 < c → c < 224 → codes_from None (code_utf8 c ++ rest) ≡ c ∷ codes_from None rest
unfolding code_utf8
extra_read c rest above below =
    let wide = wide_at (c - 155) (omega arith) in
    let not_zero : eqb c 0 ≡ false = ne_eqb c 0 (λ e. absurd (omega arith)) in
    let not_line : eqb c 13 ≡ false = ne_eqb c 13 (λ e. absurd (omega arith)) in
    rw (not_zero, not_line, le-ltb c 127 (omega arith)) (pair (slice_index extra (c - 155)) wide)
  where
    pair : (e : ℕ) → IsWide (c - 155) e → codes_from None (encode_utf8 e ++ rest) ≡ c ∷ codes_from None rest
    pair e wide =
        let character : wide_character (192 + e / 64) (128 + e % 64) ≡ e = omega (arith, wide.above, wide.below) in
        let code : wide_code (192 + e / 64) (128 + e % 64) ≡ c = rw (character, wide.place) (omega arith) in
        rw (wide_encoded e wide.above wide.below) (wide_read (192 + e / 64) (128 + e % 64) rest (omega arith) ∙ ap (λ (x : ℕ). x ∷ codes_from None rest) code)

both : (a b : Bool) → (a && b) ≡ true → (a ≡ true) × (b ≡ true)
both true b e = (refl, e)
both false b e = absurd cc

either : (a b : Bool) → (a || b) ≡ true → (a ≡ true) ⊎ (b ≡ true)
either true b e = inl refl
either false b e = inr e

pub coded_read : (c : ℕ) (rest : List ℕ) → IsTrue (has_code c) → codes_from None (code_utf8 c ++ rest) ≡ c ∷ codes_from None rest
coded_read c rest h =
    elim (either (eqb c 13) ((ltb 31 c && ltb c 127) || (ltb 154 c && ltb c 224)) h) [
      | inl e ↦ rw (eqb-true c 13 e) (newline_read rest)
      | inr h ↦ elim (either (ltb 31 c && ltb c 127) (ltb 154 c && ltb c 224) h) [
        | inl e ↦ (let p = both (ltb 31 c) (ltb c 127) e in plain_read c rest (ltb-true 31 c p.0) (ltb-true c 127 p.1))
        | inr e ↦ (let p = both (ltb 154 c) (ltb c 224) e in extra_read c rest (ltb-true 154 c p.0) (ltb-true c 224 p.1))
      ]
    ]

-- ---- a text

none_read : codes_from None [] ≡ []
unfolding codes_from
none_read = refl

pub text_codes : (codes : List ℕ) → All (λ code. IsTrue (has_code code)) codes → codes_from None (flat_map code_utf8 codes) ≡ codes
text_codes [] h = none_read
text_codes (c ∷ codes) h = coded_read c (flat_map code_utf8 codes) (h 0 0 (omega arith)) ∙ ap (λ (cs : List ℕ). c ∷ cs) (text_codes codes (λ k d lt. h (suc k) d (omega arith)))
