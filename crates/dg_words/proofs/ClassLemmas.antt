-- Numbers and words by their bytes, and by their letters.
use Rattle.std.proofs.Common.{◌≡◌, ℕ, suc, ◌+◌, ◌-◌, ◌*◌, ◌<◌, ◌≤◌, List, [], ◌∷◌, ◌++◌, Option, Some, None, Bool, true, false, refl, sym, ap, ◌∙◌, arith, length, drop}
use Rattle.std.specs.Prelude.{eqb, nat_le, ◌&&◌, if◌then◌else◌, encode_utf8_all, slice_index}
use Rattle.std.specs.Str.{bytes_eq}
use Rattle.std.specs.List.{slice_index_or}
use Rattle.std.proofs.Math.Utf8.{encode}
use Rattle.std.specs.List.{list_all}
use Rattle.std.proofs.lemmas.Bool.{lt-leb}
use Rattle.std.proofs.lemmas.List.{drop_more}
use Rattle.dg_meaning.specs.Values.{Num, Word, Unknown, Value, leaf}
use Rattle.dg_meaning.specs.Unify.{same_spelling}
use Rattle.dg_meaning.specs.Words.{is_digit, is_number, number_behind, word_from, spelled_value}
use Rattle.dg_words.specs.Classes.{number_in, place_from, place_in}
use Rattle.dg_words.proofs.Encoded.{IsHigh, encoded, Encoded, AsItself, Higher}

-- ## Numbers

-- digits behind a number are all digits, and it comes to no more than the greatest number
abbrev pub are_behind : ℕ → List ℕ → Bool
are_behind n cs = list_all is_digit cs && nat_le (number_behind n cs) 16383

-- the first so many letters are digits, which write this number
pub record Digits (spelling : List ℕ) (at n : ℕ) : Type 0 where
  pub small : n ≤ 16383
  pub number : number_behind 0 spelling ≡ number_behind n (drop at spelling)
  pub digits : are_behind 0 spelling ≡ are_behind n (drop at spelling)

number_grows : (n : ℕ) (cs : List ℕ) → n ≤ number_behind n cs
number_grows n [] = omega arith
number_grows n (c ∷ cs) = omega (arith, number_grows (10 * n + (c - 48)) cs)

and_false : (a : Bool) → (a && false) ≡ false
and_false true = refl
and_false false = refl

too_many : (n : ℕ) (c : ℕ) (cs : List ℕ) → 16383 < 10 * n + (c - 48) → are_behind n (c ∷ cs) ≡ false
too_many n c cs lt =
    let m = 10 * n + (c - 48) in
    ap (λ b. list_all is_digit (c ∷ cs) && b) (lt-leb (number_behind m cs) 16383 (omega (arith, lt, number_grows m cs))) ∙ and_false (list_all is_digit (c ∷ cs))

number_is : (spelling : List ℕ) → 0 < length spelling → is_number spelling ≡ are_behind 0 spelling
number_is [] lt = absurd (omega (arith, lt))
number_is (c ∷ cs) lt = refl

pub too_large : (spelling : List ℕ) (at n : ℕ) → at < length spelling → Digits spelling at n → 16383 < 10 * n + (slice_index spelling at - 48) → None ≡ number_in spelling
too_large spelling at n lt h large =
    let rest : drop at spelling ≡ slice_index spelling at ∷ drop (at + 1) spelling = drop_more spelling at 0 lt in
    let none : is_number spelling ≡ false = number_is spelling (omega (arith, lt)) ∙ h.digits ∙ ap (are_behind n) rest ∙ too_many n (slice_index spelling at) (drop (at + 1) spelling) large in
    sym (ap (λ b. if b then Some (number_behind 0 spelling) else None) none)

-- ## Words

pub same_as_bytes : (xs ys : List ℕ) → bytes_eq xs ys ≡ same_spelling xs ys
same_as_bytes [] [] = refl
same_as_bytes [] (y ∷ ys) = refl
same_as_bytes (x ∷ xs) [] = refl
same_as_bytes (x ∷ xs) (y ∷ ys) = ap (λ b. eqb x y && b) (same_as_bytes xs ys)

-- a word that has the spelling, and one that hasn't
pub found_here : (words : List (List ℕ)) (at : ℕ) (word bytes : List ℕ) → at < length words → word ≡ slice_index_or words at word → same_spelling word bytes ≡ true → place_in words bytes ≡ place_from at (drop at words) bytes → Some at ≡ place_in words bytes
found_here words at word bytes lt is same h =
    let rest : drop at words ≡ word ∷ drop (at + 1) words = drop_more words at word lt ∙ ap (λ w. w ∷ drop (at + 1) words) (sym is) in
    sym (h ∙ ap (λ l. place_from at l bytes) rest ∙ ap (λ b. if b then Some at else place_from (suc at) (drop (at + 1) words) bytes) same)

pub not_here : (words : List (List ℕ)) (at : ℕ) (word bytes : List ℕ) → at < length words → word ≡ slice_index_or words at word → same_spelling word bytes ≡ false → place_in words bytes ≡ place_from at (drop at words) bytes → place_in words bytes ≡ place_from (at + 1) (drop (at + 1) words) bytes
not_here words at word bytes lt is same h =
    let rest : drop at words ≡ word ∷ drop (at + 1) words = drop_more words at word lt ∙ ap (λ w. w ∷ drop (at + 1) words) (sym is) in
    let next : suc at ≡ at + 1 = omega arith in
    h ∙ ap (λ l. place_from at l bytes) rest ∙ ap (λ b. if b then Some at else place_from (suc at) (drop (at + 1) words) bytes) same ∙ ap (λ n. place_from n (drop (at + 1) words) bytes) next

-- the place is one of those that there are
below_if : (n at : ℕ) (words : List (List ℕ)) (bytes : List ℕ) (b : Bool) → (place_from (suc n) words bytes ≡ Some at → at < suc n + length words) → (if b then Some n else place_from (suc n) words bytes) ≡ Some at → at < n + suc (length words)
below_if n at words bytes true rest e = let same : n ≡ at = cc e in omega (arith, same)
below_if n at words bytes false rest e = omega (arith, rest e)

pub place_below : (n : ℕ) (words : List (List ℕ)) (bytes : List ℕ) (at : ℕ) → place_from n words bytes ≡ Some at → at < n + length words
place_below n [] bytes at e = absurd (cc e)
place_below n (word ∷ words) bytes at e = below_if n at words bytes (same_spelling word bytes) (place_below (suc n) words bytes at) e

-- what the place says of the value
abbrev pub value_at : List ℕ → Option ℕ → Value
value_at letters None = leaf (Unknown letters)
value_at letters (Some n) = leaf (Word n)

word_if : (n : ℕ) (words : List (List ℕ)) (letters : List ℕ) (b : Bool) → word_from (suc n) words letters ≡ value_at letters (place_from (suc n) words (encode_utf8_all letters)) → (if b then leaf (Word n) else word_from (suc n) words letters) ≡ value_at letters (if b then Some n else place_from (suc n) words (encode_utf8_all letters))
word_if n words letters true rest = refl
word_if n words letters false rest = rest

pub word_is : (n : ℕ) (words : List (List ℕ)) (letters : List ℕ) → word_from n words letters ≡ value_at letters (place_from n words (encode_utf8_all letters))
word_is n [] letters = refl
word_is n (word ∷ words) letters = word_if n words letters (same_spelling word (encode_utf8_all letters)) (word_is (suc n) words letters)

-- ## By letters

high_digits : (bs more : List ℕ) → IsHigh bs → list_all is_digit (bs ++ more) ≡ false
high_digits [] more h = absurd h
high_digits (b ∷ bs) more h =
    ap (λ x. nat_le 48 b && x && list_all is_digit (bs ++ more)) (lt-leb b 57 (omega (arith, h.0))) ∙ ap (λ x. x && list_all is_digit (bs ++ more)) (and_false (nat_le 48 b))

high_digit : (c : ℕ) → 128 ≤ c → is_digit c ≡ false
high_digit c h = ap (λ x. nat_le 48 c && x) (lt-leb c 57 (omega (arith, h))) ∙ and_false (nat_le 48 c)

digit_again : (c : ℕ) (cs : List ℕ) → list_all is_digit (encode_utf8_all cs) ≡ list_all is_digit cs → Encoded c → list_all is_digit (encode c ++ encode_utf8_all cs) ≡ list_all is_digit (c ∷ cs)
digit_again c cs e (AsItself low is) = ap (λ l. list_all is_digit (l ++ encode_utf8_all cs)) is ∙ ap (λ b. is_digit c && b) e
digit_again c cs e (Higher high bytes) = high_digits (encode c) (encode_utf8_all cs) bytes ∙ sym (ap (λ b. b && list_all is_digit cs) (high_digit c high))

digits_again : (letters : List ℕ) → list_all is_digit (encode_utf8_all letters) ≡ list_all is_digit letters
digits_again [] = refl
digits_again (c ∷ cs) = digit_again c cs (digits_again cs) (encoded c)

-- digits are their own bytes
both : (a b : Bool) → (a && b) ≡ true → (a ≡ true) × (b ≡ true)
both true b h = (refl, h)
both false b h = absurd (cc h)

own_byte : (c : ℕ) (cs : List ℕ) → is_digit c ≡ true → encode_utf8_all cs ≡ cs → Encoded c → encode c ++ encode_utf8_all cs ≡ c ∷ cs
own_byte c cs h e (AsItself low is) = ap (λ l. l ++ encode_utf8_all cs) is ∙ ap (λ l. c ∷ l) e
own_byte c cs h e (Higher high bytes) = absurd (cc (sym h ∙ high_digit c high))

own_bytes : (letters : List ℕ) → list_all is_digit letters ≡ true → encode_utf8_all letters ≡ letters
own_bytes [] h = refl
own_bytes (c ∷ cs) h = let parts = both (is_digit c) (list_all is_digit cs) h in own_byte c cs parts.0 (own_bytes cs parts.1) (encoded c)

no_number : (spelling : List ℕ) → list_all is_digit spelling ≡ false → number_in spelling ≡ None
no_number [] h = refl
no_number (c ∷ cs) h = ap (λ b. if b && nat_le (number_behind 0 (c ∷ cs)) 16383 then Some (number_behind 0 (c ∷ cs)) else None) h

number_again : (letters : List ℕ) (b : Bool) → list_all is_digit letters ≡ b → number_in (encode_utf8_all letters) ≡ number_in letters
number_again letters true h = ap number_in (own_bytes letters h)
number_again letters false h = no_number (encode_utf8_all letters) (digits_again letters ∙ h) ∙ sym (no_number letters h)

pub spelled_again : (words : List (List ℕ)) (bytes letters : List ℕ) → bytes ≡ encode_utf8_all letters → number_in letters ≡ number_in bytes
spelled_again words bytes letters is = sym (ap number_in is ∙ number_again letters (list_all is_digit letters) refl)

-- ## Values

number_if : (words : List (List ℕ)) (letters : List ℕ) (n : ℕ) (b : Bool) → (if b then Some (number_behind 0 letters) else None) ≡ Some n → (if b then leaf (Num (number_behind 0 letters)) else word_from 0 words letters) ≡ leaf (Num n)
number_if words letters n true h = let same : number_behind 0 letters ≡ n = cc h in ap (λ k. leaf (Num k)) same
number_if words letters n false h = absurd (cc h)

word_else : (words : List (List ℕ)) (letters : List ℕ) (b : Bool) → (if b then Some (number_behind 0 letters) else None) ≡ None → (if b then leaf (Num (number_behind 0 letters)) else word_from 0 words letters) ≡ word_from 0 words letters
word_else words letters true h = absurd (cc h)
word_else words letters false h = refl

pub is_a_number : (words : List (List ℕ)) (bytes letters : List ℕ) (n : ℕ) → bytes ≡ encode_utf8_all letters → Some n ≡ number_in bytes → leaf (Num n) ≡ spelled_value words letters
is_a_number words bytes letters n is h = sym (number_if words letters n (is_number letters) (spelled_again words bytes letters is ∙ sym h))

pub is_a_word : (words : List (List ℕ)) (bytes letters : List ℕ) (place : Option ℕ) → bytes ≡ encode_utf8_all letters → None ≡ number_in bytes → place ≡ place_in words bytes → value_at letters place ≡ spelled_value words letters
is_a_word words bytes letters place is none h =
    ap (value_at letters) (h ∙ ap (place_in words) is) ∙ sym (word_is 0 words letters) ∙ sym (word_else words letters (is_number letters) (spelled_again words bytes letters is ∙ sym none))
