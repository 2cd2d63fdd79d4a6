-- Packed Z-characters are read again.
use Rattle.std.proofs.Common.{◌≡◌, ℕ, zero, suc, ◌+◌, ◌-◌, ◌*◌, ◌/◌, ◌%◌, ◌<◌, ◌≤◌, ◌⊎◌, inl, inr, Bool, true, false, eqb, ltb, List, [], ◌∷◌, ◌++◌, length, get_or, drop, flat_map, All, Option, Some, None, IsTrue, refl, sym, ap, subst, ◌∙◌, arith, drop-cons, append_assoc}
use Rattle.std.specs.Prelude.{if◌then◌else◌, ◌&&◌, ◌||◌}
use Rattle.std.proofs.Math.Seq.{drop-append_seam}
use Rattle.std.proofs.lemmas.Bool.{eqb-true, ne_eqb, lt-ltb, le-ltb, ltb-true}
use Rattle.z_model.specs.declared.text.Alphabet.TheVariants.{Lower, Punctuation}
use Rattle.z_model.specs.Decode.{text_end}
use Rattle.z_model.specs.Text.{CodesRead, decoded_codes, read_character, z_characters, string_at, punctuation}
use Rattle.z_text.specs.Encode.{code_characters, sign_characters, word_bytes, packed, is_empty, string_of, has_code, AreSmall, StringAgain}
use Rattle.dg_base.specs.Typed.{place_of}
use Rattle.dg_base.proofs.Places.{found_at, place_within}

pub three_front : (zs : List ℕ) (at : ℕ) → at + 3 < length zs → packed (drop at zs) ≡ word_bytes 0 (get_or zs at 0) (get_or zs (at + 1) 0) (get_or zs (at + 2) 0) ++ packed (drop (at + 3) zs)
unfolding packed
three_front zs at lt =
    let one : at + 1 ≡ suc at = omega arith in
    let two : at + 2 ≡ suc (suc at) = omega arith in
    let three : at + 3 ≡ suc (suc (suc at)) = omega arith in
    let a : drop at zs ≡ get_or zs at 0 ∷ drop (suc at) zs = drop-cons zs at 0 (omega arith) in
    let b : drop (suc at) zs ≡ get_or zs (suc at) 0 ∷ drop (suc (suc at)) zs = drop-cons zs (suc at) 0 (omega arith) in
    let c : drop (suc (suc at)) zs ≡ get_or zs (suc (suc at)) 0 ∷ drop (suc (suc (suc at))) zs = drop-cons zs (suc (suc at)) 0 (omega arith) in
    let d : drop (suc (suc (suc at))) zs ≡ get_or zs (suc (suc (suc at))) 0 ∷ drop (suc (suc (suc (suc at)))) zs = drop-cons zs (suc (suc (suc at))) 0 (omega arith) in
    rw (one, two, three, a, b, c, d) refl

-- ---- the words are marked and give their Z-characters

-- Z-characters, filled up with 5
filled : List ℕ → List ℕ
filled [] = 5 ∷ 5 ∷ 5 ∷ []
filled (x ∷ []) = x ∷ 5 ∷ 5 ∷ []
filled (x ∷ y ∷ []) = x ∷ y ∷ 5 ∷ []
filled (x ∷ y ∷ z ∷ more) = if is_empty more then x ∷ y ∷ z ∷ [] else x ∷ y ∷ z ∷ filled more

record WordRead (mark x y z : ℕ) : Type 0 where
  first : (128 * mark + 4 * x + y / 8) / 4 % 32 ≡ x
  second : (128 * mark + 4 * x + y / 8) % 4 * 8 + (y % 8 * 32 + z) / 32 ≡ y
  third : (y % 8 * 32 + z) % 32 ≡ z

word_read : (mark x y z : ℕ) → mark < 2 → x < 32 → y < 32 → z < 32 → WordRead mark x y z
word_read mark x y z m a b c = record { first = omega arith; second = omega arith; third = omega arith }

last_characters : (x y z : ℕ) (rest : List ℕ) → x < 32 → y < 32 → z < 32 → z_characters (word_bytes 1 x y z ++ rest) ≡ x ∷ y ∷ z ∷ []
unfolding z_characters
last_characters x y z rest a b c =
    let w = word_read 1 x y z (omega arith) a b c in
    rw (w.first, w.second, w.third, le-ltb (128 * 1 + 4 * x + y / 8) 128 (omega arith)) refl

more_characters : (x y z : ℕ) (rest : List ℕ) → x < 32 → y < 32 → z < 32 → z_characters (word_bytes 0 x y z ++ rest) ≡ x ∷ y ∷ z ∷ z_characters rest
unfolding z_characters
more_characters x y z rest a b c =
    let w = word_read 0 x y z (omega arith) a b c in
    rw (w.first, w.second, w.third, lt-ltb (128 * 0 + 4 * x + y / 8) 128 (omega arith)) refl

last_end : (x y z : ℕ) (rest : List ℕ) (at : ℕ) → text_end (word_bytes 1 x y z ++ rest) at ≡ Some (at + 2)
unfolding text_end
last_end x y z rest at = rw (le-ltb (128 * 1 + 4 * x + y / 8) 128 (omega arith)) refl

more_end : (x y z : ℕ) (rest : List ℕ) (at : ℕ) → x < 32 → y < 32 → text_end (word_bytes 0 x y z ++ rest) at ≡ text_end rest (at + 2)
unfolding text_end
more_end x y z rest at a b = rw (lt-ltb (128 * 0 + 4 * x + y / 8) 128 (omega arith)) refl

small_behind : (z : ℕ) (zs : List ℕ) → AreSmall (z ∷ zs) → AreSmall zs
small_behind z zs h = λ k d lt. h (suc k) d (omega arith)

packed_characters : (zs rest : List ℕ) → AreSmall zs → z_characters (packed zs ++ rest) ≡ filled zs
unfolding packed filled
packed_characters [] rest h = last_characters 5 5 5 rest (omega arith) (omega arith) (omega arith)
packed_characters (x ∷ []) rest h = last_characters x 5 5 rest (h 0 0 (omega arith)) (omega arith) (omega arith)
packed_characters (x ∷ y ∷ []) rest h = last_characters x y 5 rest (h 0 0 (omega arith)) (h 1 0 (omega arith)) (omega arith)
packed_characters (x ∷ y ∷ z ∷ []) rest h = last_characters x y z rest (h 0 0 (omega arith)) (h 1 0 (omega arith)) (h 2 0 (omega arith))
packed_characters (x ∷ y ∷ z ∷ (u ∷ more)) rest h =
    ap (λ (l : List ℕ). z_characters l) (append_assoc (word_bytes 0 x y z) (packed (u ∷ more)) rest) ∙ more_characters x y z (packed (u ∷ more) ++ rest) (h 0 0 (omega arith)) (h 1 0 (omega arith)) (h 2 0 (omega arith)) ∙ ap (λ (l : List ℕ). x ∷ y ∷ z ∷ l) (packed_characters (u ∷ more) rest (small_behind z (u ∷ more) (small_behind y (z ∷ u ∷ more) (small_behind x (y ∷ z ∷ u ∷ more) h))))

packed_end : (zs rest : List ℕ) (at : ℕ) → AreSmall zs → text_end (packed zs ++ rest) at ≡ Some (at + length (packed zs))
unfolding packed
packed_end [] rest at h = last_end 5 5 5 rest at
packed_end (x ∷ []) rest at h = last_end x 5 5 rest at
packed_end (x ∷ y ∷ []) rest at h = last_end x y 5 rest at
packed_end (x ∷ y ∷ z ∷ []) rest at h = last_end x y z rest at
packed_end (x ∷ y ∷ z ∷ (u ∷ more)) rest at h =
    let long : at + 2 + length (packed (u ∷ more)) ≡ at + length (word_bytes 0 x y z ++ packed (u ∷ more)) = omega arith in
    ap (λ (l : List ℕ). text_end l at) (append_assoc (word_bytes 0 x y z) (packed (u ∷ more)) rest) ∙ more_end x y z (packed (u ∷ more) ++ rest) at (h 0 0 (omega arith)) (h 1 0 (omega arith)) ∙ packed_end (u ∷ more) rest (at + 2) (small_behind z (u ∷ more) (small_behind y (z ∷ u ∷ more) (small_behind x (y ∷ z ∷ u ∷ more) h))) ∙ ap Some long

-- ---- what fills up gives no code

fives : ℕ → List ℕ
fives zero = []
fives (suc n) = 5 ∷ fives n

record Filled (zs : List ℕ) : Type 0 where
  count : ℕ
  is : filled zs ≡ zs ++ fives count

filled_is : (zs : List ℕ) → Filled zs
unfolding filled fives
filled_is [] = record { count = 3; is = refl }
filled_is (x ∷ []) = record { count = 2; is = refl }
filled_is (x ∷ y ∷ []) = record { count = 1; is = refl }
filled_is (x ∷ y ∷ z ∷ []) = record { count = 0; is = refl }
filled_is (x ∷ y ∷ z ∷ (u ∷ more)) = let f = filled_is (u ∷ more) in record { count = f.count; is = ap (λ (l : List ℕ). x ∷ y ∷ z ∷ l) f.is }

no_codes_on : (n : ℕ) → decoded_codes Punctuation (fives n) ≡ record { codes = []; whole = true }
unfolding decoded_codes read_character fives
no_codes_on zero = refl
no_codes_on (suc n) = no_codes_on n

no_codes : (n : ℕ) → decoded_codes Lower (fives n) ≡ record { codes = []; whole = true }
unfolding decoded_codes read_character fives
no_codes zero = refl
no_codes (suc n) = no_codes_on n

-- ---- one code

abbrev with_code : ℕ → CodesRead → CodesRead
with_code c r = record { codes = c ∷ r.codes; whole = r.whole }

space_read : (rest : List ℕ) → decoded_codes Lower (0 ∷ rest) ≡ with_code 32 (decoded_codes Lower rest)
unfolding decoded_codes read_character
space_read rest = refl

newline_read : (rest : List ℕ) → decoded_codes Lower (5 ∷ 7 ∷ rest) ≡ with_code 13 (decoded_codes Lower rest)
unfolding decoded_codes read_character
newline_read rest = refl

record IsLetter (z : ℕ) : Type 0 where
  zero_not : eqb z 0 ≡ false
  above : ltb z 4 ≡ false
  four_not : eqb z 4 ≡ false
  five_not : eqb z 5 ≡ false

is_letter : (z : ℕ) → 6 ≤ z → IsLetter z
is_letter z h = record { zero_not = ne_eqb z 0 (λ e. absurd (omega arith)); above = le-ltb z 4 (omega arith); four_not = ne_eqb z 4 (λ e. absurd (omega arith)); five_not = ne_eqb z 5 (λ e. absurd (omega arith)) }

lower_read : (c : ℕ) (rest : List ℕ) → 96 < c → c < 123 → decoded_codes Lower ((c - 91) ∷ rest) ≡ with_code c (decoded_codes Lower rest)
unfolding decoded_codes read_character
lower_read c rest above below =
    let l = is_letter (c - 91) (omega arith) in
    let same : c - 91 + 91 ≡ c = omega arith in
    rw (l.zero_not, l.above, l.four_not, l.five_not, same) refl

upper_read : (c : ℕ) (rest : List ℕ) → 64 < c → c < 91 → decoded_codes Lower (4 ∷ (c - 59) ∷ rest) ≡ with_code c (decoded_codes Lower rest)
unfolding decoded_codes read_character
upper_read c rest above below =
    let l = is_letter (c - 59) (omega arith) in
    let same : c - 59 + 59 ≡ c = omega arith in
    rw (l.zero_not, l.above, l.four_not, l.five_not, same) refl

wide_read : (c : ℕ) (rest : List ℕ) → decoded_codes Lower (5 ∷ 6 ∷ (c / 32) ∷ (c % 32) ∷ rest) ≡ with_code c (decoded_codes Lower rest)
unfolding decoded_codes read_character
wide_read c rest =
    let same : 32 * (c / 32) + c % 32 ≡ c = omega arith in
    rw same refl

place_read : (c place : ℕ) (rest : List ℕ) → get_or punctuation place 0 ≡ c → decoded_codes Lower (5 ∷ (place + 8) ∷ rest) ≡ with_code c (decoded_codes Lower rest)
unfolding decoded_codes read_character
place_read c place rest at =
    let l = is_letter (place + 8) (omega arith) in
    let six_not : eqb (place + 8) 6 ≡ false = ne_eqb (place + 8) 6 (λ e. absurd (omega arith)) in
    let seven_not : eqb (place + 8) 7 ≡ false = ne_eqb (place + 8) 7 (λ e. absurd (omega arith)) in
    let back : place + 8 - 8 ≡ place = omega arith in
    rw (l.zero_not, l.above, l.four_not, l.five_not, six_not, seven_not, back, at) refl

sign_read : (c : ℕ) (o : Option ℕ) (rest : List ℕ) → place_of c punctuation ≡ o → decoded_codes Lower (sign_characters c o ++ rest) ≡ with_code c (decoded_codes Lower rest)
sign_read c None rest e = wide_read c rest
sign_read c (Some place) rest e =
    let found = found_at c punctuation 0 place e in
    let back : place - 0 ≡ place = omega arith in
    place_read c place rest (rw back at found.1)

tested : {A : Type 0} (P : A → Type 0) (t : Bool) (x y : A) → (t ≡ true → P x) → (t ≡ false → P y) → P (if t then x else y)
tested P true x y f g = f refl
tested P false x y f g = g refl

both : (a b : Bool) → (a && b) ≡ true → (a ≡ true) × (b ≡ true)
both true b e = (refl, e)
both false b e = absurd cc

either : (a b : Bool) → (a || b) ≡ true → (a ≡ true) ⊎ (b ≡ true)
either true b e = inl refl
either false b e = inr e

code_read : (c : ℕ) (rest : List ℕ) → decoded_codes Lower (code_characters c ++ rest) ≡ with_code c (decoded_codes Lower rest)
unfolding code_characters
code_read c rest =
    let P : List ℕ → Type 0 = λ l. decoded_codes Lower (l ++ rest) ≡ with_code c (decoded_codes Lower rest) in
    tested P (eqb c 32) _ _ (λ e. subst (λ (k : ℕ). decoded_codes Lower (0 ∷ rest) ≡ with_code k (decoded_codes Lower rest)) (sym (eqb-true c 32 e)) (space_read rest))
    (λ n. tested P (eqb c 13) _ _ (λ e. subst (λ (k : ℕ). decoded_codes Lower (5 ∷ 7 ∷ rest) ≡ with_code k (decoded_codes Lower rest)) (sym (eqb-true c 13 e)) (newline_read rest))
    (λ m. tested P (ltb 96 c && ltb c 123) _ _ (λ e. let p = both (ltb 96 c) (ltb c 123) e in lower_read c rest (ltb-true 96 c p.0) (ltb-true c 123 p.1))
    (λ k. tested P (ltb 64 c && ltb c 91) _ _ (λ e. let p = both (ltb 64 c) (ltb c 91) e in upper_read c rest (ltb-true 64 c p.0) (ltb-true c 91 p.1))
    (λ j. sign_read c (place_of c punctuation) rest refl))))

codes_read : (codes rest : List ℕ) → decoded_codes Lower rest ≡ record { codes = []; whole = true } → decoded_codes Lower (flat_map code_characters codes ++ rest) ≡ record { codes = codes; whole = true }
codes_read [] rest e = e
codes_read (c ∷ codes) rest e =
    ap (λ (l : List ℕ). decoded_codes Lower l) (append_assoc (code_characters c) (flat_map code_characters codes) rest) ∙ code_read c (flat_map code_characters codes ++ rest) ∙ ap (λ (r : CodesRead). with_code c r) (codes_read codes rest e)

-- ---- Z-characters have five bits

small_cons : (z : ℕ) (zs : List ℕ) → z < 32 → AreSmall zs → AreSmall (z ∷ zs)
small_cons z zs lt h = by_index
  where
    by_index : (k d : ℕ) → k < length (z ∷ zs) → get_or (z ∷ zs) k d < 32
    by_index zero d less = lt
    by_index (suc k) d less = h k d (omega arith)

none_small : AreSmall []
none_small k d less = absurd (omega arith)

append_small : (xs ys : List ℕ) → AreSmall xs → AreSmall ys → AreSmall (xs ++ ys)
append_small [] ys h k = k
append_small (x ∷ xs) ys h k = small_cons x (xs ++ ys) (h 0 0 (omega arith)) (append_small xs ys (small_behind x xs h) k)

sign_small : (c : ℕ) (o : Option ℕ) → c < 1024 → place_of c punctuation ≡ o → AreSmall (sign_characters c o)
sign_small c None lt e = small_cons 5 (6 ∷ (c / 32) ∷ (c % 32) ∷ []) (omega arith) (small_cons 6 ((c / 32) ∷ (c % 32) ∷ []) (omega arith) (small_cons (c / 32) ((c % 32) ∷ []) (omega arith) (small_cons (c % 32) [] (omega arith) none_small)))
sign_small c (Some place) lt e = small_cons 5 ((place + 8) ∷ []) (omega arith) (small_cons (place + 8) [] (place_below place e) none_small)
  where
    place_below : (place : ℕ) → place_of c punctuation ≡ Some place → place + 8 < 32
    place_below place e = let b = place_within c punctuation 0 place e in omega (arith, b)

code_small : (c : ℕ) → c < 1024 → AreSmall (code_characters c)
unfolding code_characters
code_small c lt =
    tested AreSmall (eqb c 32) _ _ (λ e. small_cons 0 [] (omega arith) none_small)
    (λ n. tested AreSmall (eqb c 13) _ _ (λ e. small_cons 5 (7 ∷ []) (omega arith) (small_cons 7 [] (omega arith) none_small))
    (λ m. tested AreSmall (ltb 96 c && ltb c 123) _ _ (λ e. let p = both (ltb 96 c) (ltb c 123) e in let above = ltb-true 96 c p.0 in let below = ltb-true c 123 p.1 in small_cons (c - 91) [] (omega arith) none_small)
    (λ k. tested AreSmall (ltb 64 c && ltb c 91) _ _ (λ e. let p = both (ltb 64 c) (ltb c 91) e in let above = ltb-true 64 c p.0 in let below = ltb-true c 91 p.1 in small_cons 4 ((c - 59) ∷ []) (omega arith) (small_cons (c - 59) [] (omega arith) none_small))
    (λ j. sign_small c (place_of c punctuation) lt refl))))

coded_below : (c : ℕ) → IsTrue (has_code c) → c < 1024
coded_below c h =
    elim (either (eqb c 13) ((ltb 31 c && ltb c 127) || (ltb 154 c && ltb c 224)) h) [
      | inl e ↦ (let is = eqb-true c 13 e in omega arith)
      | inr h ↦ elim (either (ltb 31 c && ltb c 127) (ltb 154 c && ltb c 224) h) [
        | inl e ↦ (let below = ltb-true c 127 (both (ltb 31 c) (ltb c 127) e).1 in omega arith)
        | inr e ↦ (let below = ltb-true c 224 (both (ltb 154 c) (ltb c 224) e).1 in omega arith)
      ]
    ]

codes_small : (codes : List ℕ) → All (λ code. IsTrue (has_code code)) codes → AreSmall (flat_map code_characters codes)
codes_small [] h = none_small
codes_small (c ∷ codes) h = append_small (code_characters c) (flat_map code_characters codes) (code_small c (coded_below c (h 0 0 (omega arith)))) (codes_small codes (λ k d lt. h (suc k) d (omega arith)))

-- ---- the string

pub string_again : (codes front rest : List ℕ) → StringAgain codes front rest
unfolding string_at string_of
string_again codes front rest = record { again = λ coded. there coded }
  where
    there : All (λ code. IsTrue (has_code code)) codes → string_at (front ++ (string_of codes ++ rest)) (length front) ≡ record { codes = codes; end = Some (length front + length (string_of codes)) }
    there coded =
        let zs : List ℕ = flat_map code_characters codes in
        let small = codes_small codes coded in
        let fill = filled_is (flat_map code_characters codes) in
        let read : decoded_codes Lower (filled (flat_map code_characters codes)) ≡ record { codes = codes; whole = true } = ap (λ (l : List ℕ). decoded_codes Lower l) fill.is ∙ codes_read codes (fives fill.count) (no_codes fill.count) in
        rw (drop-append_seam front (packed (flat_map code_characters codes) ++ rest), packed_characters (flat_map code_characters codes) rest small, packed_end (flat_map code_characters codes) rest (length front) small, read) refl
