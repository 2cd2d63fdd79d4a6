-- Characters in UTF-8: how they begin and end.
use Rattle.std.proofs.Common.{◌≡◌, ℕ, ◌+◌, ◌-◌, ◌/◌, ◌%◌, ◌<◌, ◌≤◌, inl, inr, Bool, true, false, List, [], ◌∷◌, ◌++◌, Option, Some, refl, sym, ap, ◌∙◌, arith}
use Rattle.std.specs.Prelude.{if◌then◌else◌, encode_utf8_all}
use Rattle.std.specs.List.{list_any}
use Rattle.std.proofs.lemmas.Bool.{ne_eqb, lt-ltb, le-ltb, cases_lt}
use Rattle.std.proofs.Math.Utf8.{encode}
use Rattle.dg_meaning.specs.World.{Print}
use Rattle.dg_meaning.specs.Render.{is_upper, opens, closes, upper, capital, last_of}
use Rattle.dg_rt.proofs.Closing.{itself}
use Rattle.dg_rt.proofs.First.{as_it_is, capital_of, upper_low, upper_high, upper_letter}
use Rattle.dg_rt.proofs.Marks.{opens_by, unchanged}
use Rattle.dg_rt.proofs.Separating.{closes_by}

high_not_open : (x : ℕ) → 124 ≤ x → opens x ≡ false
high_not_open x le = opens_by x ∙ rw (ne_eqb x 40 (λ (e : x ≡ 40). (omega arith)), ne_eqb x 91 (λ (e : x ≡ 91). (omega arith)), ne_eqb x 123 (λ (e : x ≡ 123). (omega arith))) refl

high_not_close : (x : ℕ) → 126 ≤ x → closes x ≡ false
high_not_close x le =
    closes_by x
    ∙ rw (
      ne_eqb x 46 (λ (e : x ≡ 46). (omega arith)),
      ne_eqb x 44 (λ (e : x ≡ 44). (omega arith)),
      ne_eqb x 59 (λ (e : x ≡ 59). (omega arith)),
      ne_eqb x 58 (λ (e : x ≡ 58). (omega arith)),
      ne_eqb x 33 (λ (e : x ≡ 33). (omega arith)),
      ne_eqb x 63 (λ (e : x ≡ 63). (omega arith)),
      ne_eqb x 41 (λ (e : x ≡ 41). (omega arith)),
      ne_eqb x 93 (λ (e : x ≡ 93). (omega arith)),
      ne_eqb x 125 (λ (e : x ≡ 125). (omega arith)),
    ) refl

-- a letter opens nothing
letter_not_open : (x : ℕ) → 65 ≤ x → x ≤ 90 → opens x ≡ false
letter_not_open x low high = opens_by x ∙ rw (ne_eqb x 40 (λ (e : x ≡ 40). (omega arith)), ne_eqb x 91 (λ (e : x ≡ 91). (omega arith)), ne_eqb x 123 (λ (e : x ≡ 123). (omega arith))) refl

small_not_open : (x : ℕ) → 97 ≤ x → x ≤ 122 → opens x ≡ false
small_not_open x low high = opens_by x ∙ rw (ne_eqb x 40 (λ (e : x ≡ 40). (omega arith)), ne_eqb x 91 (λ (e : x ≡ 91). (omega arith)), ne_eqb x 123 (λ (e : x ≡ 123). (omega arith))) refl

upper_opens : (c : ℕ) → opens (upper c) ≡ opens c
upper_opens c =
    elim (cases_lt c 97) [
      | inl low ↦ ap opens (upper_low c low)
      | inr le ↦ elim (cases_lt 122 c) [
        | inl high ↦ ap opens (upper_high c high)
        | inr le' ↦ ap opens (upper_letter c le le') ∙ letter_not_open (c - 32) (omega arith) (omega arith) ∙ sym (small_not_open c le le')
      ]
    ]

-- How a character's bytes begin, and how they end, also where its first byte is a capital.
pub record Encoded (c : ℕ) : Type 0 where
  pub b : ℕ
  pub bs : List ℕ
  pub is : encode c ≡ b ∷ bs
  pub closing : closes c ≡ closes b

pub record EndsAs (before : Option ℕ) (text : List ℕ) (c : ℕ) : Type 0 where
  pub x : ℕ
  pub is : last_of before text ≡ Some x
  pub opening : opens x ≡ opens c

pub encoded : (c : ℕ) → c < 65536 → Encoded c
unfolding encode
encoded c lt =
    elim (cases_lt c 128) [
      | inl one ↦ record { b = c; bs = []; is = itself c one; closing = refl }
      | inr le ↦ elim (cases_lt c 2048) [
        | inl two ↦ record { b = 192 + c / 64; bs = (128 + c % 64) ∷ []; is = rw (le-ltb c 128 le, lt-ltb c 2048 two) refl; closing = high_not_close c (omega arith) ∙ sym (high_not_close (192 + c / 64) (omega arith)) }
        | inr le' ↦ record { b = 224 + c / 4096; bs = (128 + c / 64 % 64) ∷ (128 + c % 64) ∷ []; is = rw (le-ltb c 128 le, le-ltb c 2048 le', lt-ltb c 65536 lt) refl; closing = high_not_close c (omega arith) ∙ sym (high_not_close (224 + c / 4096) (omega arith)) }
      ]
    ]

capital_first : (gap : List Print) (b : ℕ) (bs : List ℕ) (t : Bool) → list_any is_upper gap ≡ t → capital gap (b ∷ bs) ≡ (if t then upper b else b) ∷ bs
capital_first gap b bs true e = capital_of gap b bs e
capital_first gap b bs false e = as_it_is gap (b ∷ bs) e

one_ends : (gap : List Print) (before : Option ℕ) (c : ℕ) (t : Bool) → list_any is_upper gap ≡ t → EndsAs before (capital gap (c ∷ [])) c
one_ends gap before c true e = record { x = upper c; is = ap (last_of before) (capital_first gap c [] true e); opening = upper_opens c }
one_ends gap before c false e = record { x = c; is = ap (last_of before) (capital_first gap c [] false e); opening = refl }

pub capital_ends : (gap : List Print) (before : Option ℕ) (c : ℕ) → c < 65536 → EndsAs before (capital gap (encode c)) c
unfolding encode
capital_ends gap before c lt =
    elim (cases_lt c 128) [
      | inl one ↦ (let r = one_ends gap before c (list_any is_upper gap) refl in record { x = r.x; is = ap (λ (l : List ℕ). last_of before (capital gap l)) (itself c one) ∙ r.is; opening = r.opening })
      | inr le ↦ elim (cases_lt c 2048) [
        | inl two ↦ record { x = 128 + c % 64; is = rw (le-ltb c 128 le, lt-ltb c 2048 two) (ap (last_of before) (unchanged gap (192 + c / 64) ((128 + c % 64) ∷ []) (upper_high (192 + c / 64) (omega arith)))); opening = high_not_open (128 + c % 64) (omega arith) ∙ sym (high_not_open c (omega arith)) }
        | inr le' ↦ record { x = 128 + c % 64; is = rw (le-ltb c 128 le, le-ltb c 2048 le', lt-ltb c 65536 lt) (ap (last_of before) (unchanged gap (224 + c / 4096) ((128 + c / 64 % 64) ∷ (128 + c % 64) ∷ []) (upper_high (224 + c / 4096) (omega arith)))); opening = high_not_open (128 + c % 64) (omega arith) ∙ sym (high_not_open c (omega arith)) }
      ]
    ]

plain_ends : (before : Option ℕ) (c : ℕ) → c < 65536 → EndsAs before (encode c) c
plain_ends before c lt = let r = capital_ends [] before c lt in record { x = r.x; is = ap (last_of before) (sym (as_it_is [] (encode c) refl)) ∙ r.is; opening = r.opening }

-- the last of some characters, behind one
abbrev pub last_in : ℕ → List ℕ → ℕ
last_in d [] = d
last_in d (e ∷ es) = last_in e es

abbrev pub AllSmall : List ℕ → Type 0
AllSmall [] = Unit {0}
AllSmall (c ∷ cs) = (c < 65536) × AllSmall cs

last_on : (before : Option ℕ) (xs ys : List ℕ) → last_of before (xs ++ ys) ≡ last_of (last_of before xs) ys
last_on before [] ys = refl
last_on before (x ∷ xs) ys = last_on (Some x) xs ys

all_end : (ds : List ℕ) (before : Option ℕ) (x d : ℕ) → AllSmall ds → before ≡ Some x → opens x ≡ opens d → EndsAs before (encode_utf8_all ds) (last_in d ds)
all_end [] before x d small is e = record { x = x; is = is; opening = e }
all_end (c ∷ cs) before x d small is e =
    let one = plain_ends before c small.0 in
    let r = all_end cs (last_of before (encode c)) one.x c small.1 one.is one.opening in
    record { x = r.x; is = last_on before (encode c) (encode_utf8_all cs) ∙ r.is; opening = r.opening }

-- the bytes of some characters, the first perhaps with a capital
pub text_ends : (gap : List Print) (before : Option ℕ) (d : ℕ) (ds : List ℕ) → d < 65536 → AllSmall ds → EndsAs before (capital gap (encode d) ++ encode_utf8_all ds) (last_in d ds)
text_ends gap before d ds lt small =
    let one = capital_ends gap before d lt in
    let r = all_end ds (last_of before (capital gap (encode d))) one.x d small one.is one.opening in
    record { x = r.x; is = last_on before (capital gap (encode d)) (encode_utf8_all ds) ∙ r.is; opening = r.opening }

pub capital_on : (gap : List Print) (d : ℕ) (ys : List ℕ) → d < 65536 → capital gap (encode d ++ ys) ≡ capital gap (encode d) ++ ys
capital_on gap d ys lt =
    let r = encoded d lt in
    let t = list_any is_upper gap in
    ap (λ (l : List ℕ). capital gap (l ++ ys)) r.is ∙ capital_first gap r.b (r.bs ++ ys) t refl ∙ sym (ap (λ (l : List ℕ). l ++ ys) (ap (capital gap) r.is ∙ capital_first gap r.b r.bs t refl))
