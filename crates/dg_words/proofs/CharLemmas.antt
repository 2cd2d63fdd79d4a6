-- The characters of spellings: each has one byte that begins it, and at most three that go on.
use Rattle.std.proofs.Common.{◌≡◌, ℕ, zero, suc, ◌+◌, ◌*◌, ◌/◌, ◌%◌, ◌-◌, ◌<◌, ◌≤◌, List, [], ◌∷◌, ◌++◌, Bool, true, false, cond, inl, inr, refl, sym, ap, ◌∙◌, arith, length, take, get_or, length-append}
use Rattle.std.specs.Prelude.{nat_lt, ◌&&◌, not, count_by, slice_index, encode_utf8_all}
use Rattle.std.proofs.Math.Utf8.{encode, next}
use Rattle.std.proofs.lemmas.Bool.{ltb-true, lt-ltb, le-ltb, cases_lt}
use Rattle.std.proofs.Math.Seq.{length-take-le, get_or-take, get_or-append-add}
use Rattle.std.proofs.lemmas.List.Sums.{sum_by-append, sum_by-cons}
use Rattle.dg_base.specs.Units.{is_tail}
use Rattle.dg_words.specs.Chars.{begins, GoesBackTo}

-- ## Bytes of one character

tail_is : (b : ℕ) → 127 < b → b < 192 → is_tail b ≡ true
tail_is b above below = ap (λ x. x && nat_lt b 192) (lt-ltb 127 b above) ∙ lt-ltb b 192 below

low_is : (b : ℕ) → b ≤ 127 → is_tail b ≡ false
low_is b low = ap (λ x. x && nat_lt b 192) (le-ltb 127 b low)

and_false : (a : Bool) → (a && false) ≡ false
and_false true = refl
and_false false = refl

high_is : (b : ℕ) → 192 ≤ b → is_tail b ≡ false
high_is b high = ap (λ x. nat_lt 127 b && x) (le-ltb b 192 high) ∙ and_false (nat_lt 127 b)

next_is : (bits : ℕ) → is_tail (next bits) ≡ true
next_is bits = tail_is (128 + bits % 64) (omega arith) (omega arith)

abbrev pub AreTails : List ℕ → Type 0
AreTails [] = Unit {0}
AreTails (b ∷ bs) = (is_tail b ≡ true) × AreTails bs

-- a byte that begins it, and at most three that go on
abbrev pub IsCharacter : List ℕ → Type 0
IsCharacter [] = ⊥
IsCharacter (b ∷ bs) = (is_tail b ≡ false) × AreTails bs × (length bs ≤ 3)

one_of : (x y : Bool) (two three four : List ℕ) → IsCharacter two → IsCharacter three → IsCharacter four → IsCharacter (cond x two (cond y three four))
one_of true y two three four h2 h3 h4 = h2
one_of false true two three four h2 h3 h4 = h3
one_of false false two three four h2 h3 h4 = h4

by_bytes : (c : ℕ) (b : Bool) → nat_lt c 128 ≡ b → IsCharacter (encode c)
unfolding encode
by_bytes c true h = let low = ltb-true c 128 h in let all : IsCharacter (c ∷ []) = (low_is c (omega (arith, low)), tt, omega arith) in rw h all
by_bytes c false h =
    let two = (192 + c / 64) ∷ next c ∷ [] in
    let three = (224 + c / 4096) ∷ next (c / 64) ∷ next c ∷ [] in
    let four = (240 + c / 262144) ∷ next (c / 4096) ∷ next (c / 64) ∷ next c ∷ [] in
    let of_two : IsCharacter two = (high_is (192 + c / 64) (omega arith), (next_is c, tt), omega arith) in
    let of_three : IsCharacter three = (high_is (224 + c / 4096) (omega arith), (next_is (c / 64), (next_is c, tt)), omega arith) in
    let of_four : IsCharacter four = (high_is (240 + c / 262144) (omega arith), (next_is (c / 4096), (next_is (c / 64), (next_is c, tt))), omega arith) in
    let all : IsCharacter (cond (nat_lt c 2048) two (cond (nat_lt c 65536) three four)) = one_of (nat_lt c 2048) (nat_lt c 65536) two three four of_two of_three of_four in
    rw h all

pub character : (c : ℕ) → IsCharacter (encode c)
character c = by_bytes c (nat_lt c 128) refl

-- ## Where it begins

tail_at : (bs : List ℕ) → AreTails bs → (j : ℕ) → j < length bs → is_tail (get_or bs j 0) ≡ true
tail_at [] h j lt = absurd (omega arith)
tail_at (b ∷ bs) h zero lt = h.0
tail_at (b ∷ bs) h (suc j) lt = tail_at bs h.1 j (omega arith)

goes_on_at : (bs : List ℕ) → IsCharacter bs → (j : ℕ) → 0 < j → j < length bs → is_tail (get_or bs j 0) ≡ true
goes_on_at [] h j some lt = absurd h
goes_on_at (b ∷ bs) h zero some lt = absurd (omega (arith, some))
goes_on_at (b ∷ bs) h (suc j) some lt = tail_at bs h.1 j (omega arith)

begins_at : (bs : List ℕ) → IsCharacter bs → is_tail (get_or bs 0 0) ≡ false
begins_at [] h = absurd h
begins_at (b ∷ bs) h = h.0

some_byte : (bs : List ℕ) → IsCharacter bs → 0 < length bs
some_byte [] h = absurd h
some_byte (b ∷ bs) h = omega arith

pub starts_at : (spelling before : List ℕ) (c end start : ℕ) → end ≤ length spelling → 0 < end → take end spelling ≡ encode_utf8_all before ++ encode c → GoesBackTo spelling (end - 1) start → start ≡ length (encode_utf8_all before)
starts_at spelling before c end start within some is h =
    let front = encode_utf8_all before in
    let b = length front in
    let long : end ≡ b + length (encode c) = omega (arith, ap length is, length-append front (encode c), length-take-le end spelling within) in
    let byte : (j : ℕ) → j < length (encode c) → slice_index spelling (b + j) ≡ get_or (encode c) j 0 =
    λ j lt. sym (get_or-take end spelling (b + j) 0 (omega (arith, long, lt))) ∙ ap (λ l. get_or l (b + j) 0) is ∙ get_or-append-add front (encode c) j 0 in
    elim (cases_lt start b) [
      | inl lt ↦
          let first = some_byte (encode c) (character c) in
          let here : is_tail (slice_index spelling (b + 0)) ≡ false = ap is_tail (byte 0 first) ∙ begins_at (encode c) (character c) in
          let goes : is_tail (slice_index spelling (b + 0)) ≡ true = h.tails (b + 0) (omega (arith, lt)) (omega (arith, long, first)) in
          absurd (let e : true ≡ false = sym goes ∙ here in cc)
      | inr ge ↦
          elim (cases_lt b start) [
            | inl gt ↦
                let order = h.order in
                let inside : start - b < length (encode c) = omega (arith, order, long, gt, some) in
                let place : b + (start - b) ≡ start = omega (arith, gt) in
                let goes : is_tail (slice_index spelling start) ≡ true = ap (λ i. is_tail (slice_index spelling i)) (sym place) ∙ ap is_tail (byte (start - b) inside) ∙ goes_on_at (encode c) (character c) (start - b) (omega (arith, gt)) inside in
                let begins : is_tail (slice_index spelling start) ≡ false = h.begins (omega (arith, gt)) in
                absurd (let e : true ≡ false = sym goes ∙ begins in cc)
            | inr le ↦ omega (arith, ge, le)
          ]
    ]

pub no_character : (spelling before : List ℕ) (c end : ℕ) → end ≡ 0 → take end spelling ≡ encode_utf8_all before ++ encode c → ⊥
no_character spelling before c end none is =
    let empty : length (take end spelling) ≡ 0 = ap (λ n. length (take n spelling)) none in
    absurd (omega (arith, empty, ap length is, length-append (encode_utf8_all before) (encode c), some_byte (encode c) (character c)))

pub is_within : (spelling before behind : List ℕ) (c at : ℕ) → spelling ≡ encode_utf8_all before ++ (encode c ++ encode_utf8_all behind) → at ≡ length (encode_utf8_all before) → at < length spelling
is_within spelling before behind c at is place =
    omega (arith, place, ap length is, length-append (encode_utf8_all before) (encode c ++ encode_utf8_all behind), length-append (encode c) (encode_utf8_all behind), some_byte (encode c) (character c))

-- ## How many there are

-- one for each byte that begins a character
abbrev one_if : ℕ → ℕ
one_if b = cond (begins b) 1 0

pub count_both : (xs ys : List ℕ) → count_by begins (xs ++ ys) ≡ count_by begins xs + count_by begins ys
count_both xs ys = sum_by-append one_if xs ys

no_begins : (bs : List ℕ) → AreTails bs → count_by begins bs ≡ 0
no_begins [] h = refl
no_begins (b ∷ bs) h =
    let none : one_if b ≡ 0 = ap (λ t. cond (not t) 1 0) h.0 in
    omega (arith, sum_by-cons one_if b bs, none, no_begins bs h.1)

one_begins : (bs : List ℕ) → IsCharacter bs → (count_by begins bs ≡ 1) × (length bs ≤ 4)
one_begins [] h = absurd h
one_begins (b ∷ bs) h =
    let one : one_if b ≡ 1 = ap (λ t. cond (not t) 1 0) h.0 in
    (omega (arith, sum_by-cons one_if b bs, one, no_begins bs h.1), omega (arith, h.2))

pub record Counted (letters : List ℕ) : Type 0 where
  pub count : count_by begins (encode_utf8_all letters) ≡ length letters
  pub bytes : length (encode_utf8_all letters) ≤ 4 * length letters

pub counted : (letters : List ℕ) → Counted letters
counted [] = record { count = refl; bytes = omega arith }
counted (c ∷ cs) =
    let one = one_begins (encode c) (character c) in
    let rest = counted cs in
    record {
      count = omega (arith, count_both (encode c) (encode_utf8_all cs), one.0, rest.count);
      bytes = omega (arith, length-append (encode c) (encode_utf8_all cs), one.1, rest.bytes);
    }
