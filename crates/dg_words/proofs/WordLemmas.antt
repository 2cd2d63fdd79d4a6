-- The words of letters, and those of their bytes.
use Rattle.std.proofs.Common.{◌≡◌, ℕ, ◌≤◌, List, [], ◌∷◌, ◌++◌, Bool, true, false, refl, sym, ap, ◌∙◌, arith, map, append-nil, append_assoc}
use Rattle.std.specs.Prelude.{eqb, if◌then◌else◌, encode_utf8_all}
use Rattle.std.proofs.Math.Utf8.{encode}
use Rattle.std.proofs.lemmas.Bool.{ne_eqb}
use Rattle.std.proofs.lemmas.Str.{encodes-append}
use Rattle.std.proofs.lemmas.List.{map-append}
use Rattle.dg_meaning.specs.Words.{is_alone, if_spelled, spellings_behind, spellings_of}
use Rattle.dg_words.proofs.Encoded.{AreHigh, IsHigh, Encoded, AsItself, Higher, encoded}
use Rattle.dg_words.proofs.CharLemmas.{IsCharacter, character}

abbrev E : List ℕ → List ℕ
E letters = encode_utf8_all letters

-- ## Letters above ASCII

high_alone : (c : ℕ) → 128 ≤ c → is_alone c ≡ false
high_alone c h =
    rw (ne_eqb c 46 (λ e. omega (arith, e, h)), ne_eqb c 44 (λ e. omega (arith, e, h)), ne_eqb c 34 (λ e. omega (arith, e, h)), ne_eqb c 59 (λ e. omega (arith, e, h)), ne_eqb c 42 (λ e. omega (arith, e, h)), ne_eqb c 40 (λ e. omega (arith, e, h)), ne_eqb c 41 (λ e. omega (arith, e, h))) refl

high_goes_on : (begun : List ℕ) (c : ℕ) (cs : List ℕ) → 128 ≤ c → spellings_behind begun (c ∷ cs) ≡ spellings_behind (begun ++ c ∷ []) cs
high_goes_on begun c cs h =
    let rest = if_spelled begun ++ spellings_behind [] cs in
    let one = if_spelled begun ++ (c ∷ []) ∷ spellings_behind [] cs in
    let on = spellings_behind (begun ++ c ∷ []) cs in
    ap (λ b. if b then rest else if is_alone c then one else on) (ne_eqb c 32 (λ e. omega (arith, e, h))) ∙ ap (λ b. if b then one else on) (high_alone c h)

all_go_on : (begun bs rest : List ℕ) → AreHigh bs → spellings_behind begun (bs ++ rest) ≡ spellings_behind (begun ++ bs) rest
all_go_on begun [] rest h = ap (λ l. spellings_behind l rest) (sym (append-nil begun))
all_go_on begun (b ∷ bs) rest h =
    high_goes_on begun b (bs ++ rest) h.0 ∙ all_go_on (begun ++ b ∷ []) bs rest h.1 ∙ ap (λ l. spellings_behind l rest) (append_assoc begun (b ∷ []) bs)

are_high : (bs : List ℕ) → IsHigh bs → AreHigh bs
are_high [] h = absurd h
are_high (b ∷ bs) h = h

-- ## Spellings

some_spelled : (bs rest : List ℕ) → IsCharacter bs → if_spelled (bs ++ rest) ≡ (bs ++ rest) ∷ []
some_spelled [] rest h = absurd h
some_spelled (b ∷ bs) rest h = refl

spelled_again : (begun : List ℕ) → if_spelled (E begun) ≡ map encode_utf8_all (if_spelled begun)
spelled_again [] = refl
spelled_again (c ∷ cs) = some_spelled (encode c) (E cs) (character c)

-- a letter that is its own byte, among the three ways on
by_tests : (space alone : Bool) (begun cs : List ℕ) (c : ℕ) → encode c ≡ c ∷ [] → spellings_behind [] (E cs) ≡ map encode_utf8_all (spellings_behind [] cs) → spellings_behind (E begun ++ c ∷ []) (E cs) ≡ map encode_utf8_all (spellings_behind (begun ++ c ∷ []) cs) → (if space then if_spelled (E begun) ++ spellings_behind [] (E cs) else if alone then if_spelled (E begun) ++ (c ∷ []) ∷ spellings_behind [] (E cs) else spellings_behind (E begun ++ c ∷ []) (E cs)) ≡ map encode_utf8_all (if space then if_spelled begun ++ spellings_behind [] cs else if alone then if_spelled begun ++ (c ∷ []) ∷ spellings_behind [] cs else spellings_behind (begun ++ c ∷ []) cs)
by_tests true alone begun cs c own rest on =
    ap (λ l. l ++ spellings_behind [] (E cs)) (spelled_again begun) ∙ ap (λ l. map encode_utf8_all (if_spelled begun) ++ l) rest ∙ sym (map-append encode_utf8_all (if_spelled begun) (spellings_behind [] cs))
by_tests false true begun cs c own rest on =
    let byte : c ∷ [] ≡ encode c ++ [] = sym own ∙ sym (append-nil (encode c)) in
    ap (λ l. l ++ (c ∷ []) ∷ spellings_behind [] (E cs)) (spelled_again begun)
    ∙ ap (λ l. map encode_utf8_all (if_spelled begun) ++ (c ∷ []) ∷ l) rest
    ∙ ap (λ b. map encode_utf8_all (if_spelled begun) ++ b ∷ map encode_utf8_all (spellings_behind [] cs)) byte
    ∙ sym (map-append encode_utf8_all (if_spelled begun) ((c ∷ []) ∷ spellings_behind [] cs))
by_tests false false begun cs c own rest on = on

one_more : (begun cs : List ℕ) (c : ℕ) → Encoded c → spellings_behind [] (E cs) ≡ map encode_utf8_all (spellings_behind [] cs) → spellings_behind (E (begun ++ c ∷ [])) (E cs) ≡ map encode_utf8_all (spellings_behind (begun ++ c ∷ []) cs) → spellings_behind (E begun) (encode c ++ E cs) ≡ map encode_utf8_all (spellings_behind begun (c ∷ cs))
one_more begun cs c (AsItself low own) rest on =
    let grown : E (begun ++ c ∷ []) ≡ E begun ++ c ∷ [] = encodes-append begun (c ∷ []) ∙ ap (λ l. E begun ++ (l ++ [])) own in
    ap (λ l. spellings_behind (E begun) (l ++ E cs)) own ∙ by_tests (eqb c 32) (is_alone c) begun cs c own rest (ap (λ l. spellings_behind l (E cs)) (sym grown) ∙ on)
one_more begun cs c (Higher high bytes) rest on =
    let grown : E (begun ++ c ∷ []) ≡ E begun ++ encode c = encodes-append begun (c ∷ []) ∙ ap (λ l. E begun ++ l) (append-nil (encode c)) in
    all_go_on (E begun) (encode c) (E cs) (are_high (encode c) bytes) ∙ ap (λ l. spellings_behind l (E cs)) (sym grown) ∙ on ∙ ap (map encode_utf8_all) (sym (high_goes_on begun c cs high))

words_behind : (begun cs : List ℕ) → spellings_behind (E begun) (E cs) ≡ map encode_utf8_all (spellings_behind begun cs)
words_behind begun [] = spelled_again begun
words_behind begun (c ∷ cs) = one_more begun cs c (encoded c) (words_behind [] cs) (words_behind (begun ++ c ∷ []) cs)

pub words_again : (letters : List ℕ) → spellings_of (encode_utf8_all letters) ≡ map encode_utf8_all (spellings_of letters)
words_again letters = words_behind [] letters
