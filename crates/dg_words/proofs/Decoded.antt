-- The letters that bytes spell, one after another.
use Rattle.std.proofs.Common.{◌≡◌, ℕ, ◌+◌, ◌*◌, ◌<◌, ◌≤◌, List, [], ◌∷◌, ◌++◌, Bool, true, false, length, take, drop, get_or, refl, sym, ap, ◌∙◌, arith, append_assoc, append-nil, length-append}
use Rattle.std.specs.Prelude.{◌/◌, ◌%◌, nat_lt, encode_utf8_all}
use Rattle.std.specs.List.{All}
use Rattle.std.proofs.lemmas.Bool.{ltb-true, ltb-false}
use Rattle.std.proofs.lemmas.List.Elements.{All-head, All-tail}
use Rattle.std.proofs.lemmas.List.{drop-drop, take_all, length-take-le, take-append-le, take_more_set}
use Rattle.std.proofs.Math.ListN.{set, drop_of_length-le}
use Rattle.std.proofs.Math.Seq.{drop-append_seam}
use Rattle.std.proofs.Math.Utf8.{encode}
use Rattle.dg_words.proofs.Encoded.{encoded, Encoded, AsItself, Higher}
use Rattle.dg_words.proofs.LetterLemmas.{two_bytes, three_bytes}

-- how a letter stands in front of bytes
pub data Stands (bytes : List ℕ) (c : ℕ) : Type 0 where
  One : c < 128 → get_or bytes 0 0 ≡ c → length (encode c) ≡ 1 → Stands bytes c
  Two : 128 ≤ c → c < 2048 → get_or bytes 0 0 ≡ 192 + c / 64 → get_or bytes 1 0 ≡ 128 + c % 64 → length (encode c) ≡ 2 → Stands bytes c
  Three : 2048 ≤ c → get_or bytes 0 0 ≡ 224 + c / 4096 → get_or bytes 1 0 ≡ 128 + c / 64 % 64 → get_or bytes 2 0 ≡ 128 + c % 64 → length (encode c) ≡ 3 → Stands bytes c

high_stands : (bytes behind : List ℕ) (c : ℕ) (b : Bool) → nat_lt c 2048 ≡ b → 128 ≤ c → c < 65536 → bytes ≡ encode c ++ behind → Stands bytes c
high_stands bytes behind c true h low le is =
    let e = two_bytes c low (ltb-true c 2048 h) in
    let all : bytes ≡ (192 + c / 64) ∷ (128 + c % 64) ∷ behind = is ∙ ap (λ l. l ++ behind) e in
    Two low (ltb-true c 2048 h) (ap (λ l. get_or l 0 0) all) (ap (λ l. get_or l 1 0) all) (ap length e)
high_stands bytes behind c false h low le is =
    let e = three_bytes c (ltb-false c 2048 h) le in
    let all : bytes ≡ (224 + c / 4096) ∷ (128 + c / 64 % 64) ∷ (128 + c % 64) ∷ behind = is ∙ ap (λ l. l ++ behind) e in
    Three (ltb-false c 2048 h) (ap (λ l. get_or l 0 0) all) (ap (λ l. get_or l 1 0) all) (ap (λ l. get_or l 2 0) all) (ap length e)

by_form : (bytes behind : List ℕ) (c : ℕ) → Encoded c → c < 65536 → bytes ≡ encode c ++ behind → Stands bytes c
by_form bytes behind c (AsItself low e) le is = One low (ap (λ l. get_or l 0 0) (is ∙ ap (λ l. l ++ behind) e)) (ap length e)
by_form bytes behind c (Higher low e) le is = high_stands bytes behind c (nat_lt c 2048) refl low le is

stands : (bytes behind : List ℕ) (c : ℕ) → c < 65536 → bytes ≡ encode c ++ behind → Stands bytes c
stands bytes behind c le is = by_form bytes behind c (encoded c) le is

pub one_letter : (bytes behind : List ℕ) (c : ℕ) → c < 65536 → bytes ≡ encode c ++ behind → get_or bytes 0 0 < 128 → (get_or bytes 0 0 ≡ c) × (1 ≡ length (encode c))
one_letter bytes behind c le is low =
    elim (stands bytes behind c le is) [ One l is size ↦ (is, sym size) | Two l m first second size ↦ absurd (omega arith) | Three l first second third size ↦ absurd (omega arith) ]

pub two_letter : (bytes behind : List ℕ) (c : ℕ) → c < 65536 → bytes ≡ encode c ++ behind → 128 ≤ get_or bytes 0 0 → get_or bytes 0 0 < 224 → (get_or bytes 0 0 % 32 * 64 + get_or bytes 1 0 % 64 ≡ c) × (2 ≡ length (encode c))
two_letter bytes behind c le is low high =
    elim (stands bytes behind c le is) [ One l is size ↦ absurd (omega arith) | Two l m first second size ↦ (omega arith, sym size) | Three l first second third size ↦ absurd (omega arith) ]

pub three_letter : (bytes behind : List ℕ) (c : ℕ) → c < 65536 → bytes ≡ encode c ++ behind → 224 ≤ get_or bytes 0 0 → (get_or bytes 0 0 % 16 * 4096 + get_or bytes 1 0 % 64 * 64 + get_or bytes 2 0 % 64 ≡ c) × (3 ≡ length (encode c))
three_letter bytes behind c le is low =
    elim (stands bytes behind c le is) [ One l is size ↦ absurd (omega arith) | Two l m first second size ↦ absurd (omega arith) | Three l first second third size ↦ (omega arith, sym size) ]

-- ## One after another

-- the first letters of a spelling stand in front of a row, and the bytes from a place on spell the others
pub record Decodes (cs bytes row : List ℕ) (kept at : ℕ) : Type 0 where
  pub rest : List ℕ
  pub fits : kept ≤ length row
  pub is : cs ≡ take kept row ++ rest
  pub left : drop at bytes ≡ encode_utf8_all rest
  pub small : All (λ c. c < 65536) rest

pub decodes_none : (cs bytes row : List ℕ) → bytes ≡ encode_utf8_all cs → All (λ c. c < 65536) cs → Decodes cs bytes row 0 0
decodes_none cs bytes row is small = record { rest = cs; fits = omega arith; is = refl; left = is; small = small }

-- bytes that are left spell a letter
some_rest : (rest bytes : List ℕ) → bytes ≡ encode_utf8_all rest → 0 < length bytes → All (λ c. c < 65536) rest → (c : ℕ) × (cs : List ℕ) × (rest ≡ c ∷ cs) × (bytes ≡ encode c ++ encode_utf8_all cs) × (c < 65536) × All (λ x. x < 65536) cs
some_rest [] bytes is some small = absurd (omega (arith, ap length is))
some_rest (c ∷ cs) bytes is some small = (c, cs, refl, is, All-head (λ x. x < 65536) c cs small, All-tail (λ x. x < 65536) c cs small)

pub decodes_more : (cs bytes row : List ℕ) (kept at letter size : ℕ) → Decodes cs bytes row kept at → 0 < length (drop at bytes) → kept < length row →
    ((c : ℕ) (behind : List ℕ) → drop at bytes ≡ encode c ++ behind → c < 65536 → letter ≡ c) → ((c : ℕ) (behind : List ℕ) → drop at bytes ≡ encode c ++ behind → c < 65536 → size ≡ length (encode c)) → (new : List ℕ) → new ≡ set row kept letter → length new ≡ length row → Decodes cs bytes new (kept + 1) (at + size)
decodes_more cs bytes row kept at letter size d some room is_letter is_size new now same =
    let f = some_rest d.rest (drop at bytes) d.left some d.small in
    let c = f.0 in
    let others = f.1 in
    let behind = encode_utf8_all others in
    let one : letter ≡ c = is_letter c behind f.3 f.4 in
    let long : size ≡ length (encode c) = is_size c behind f.3 f.4 in
    record {
      rest = others;
      fits = omega (arith, room, same);
      is = d.is ∙ ap (λ l. take kept row ++ l) f.2 ∙ sym (append_assoc (take kept row) (c ∷ []) others)
          ∙ ap (λ x. (take kept row ++ x ∷ []) ++ others) (sym one)
          ∙ ap (λ l. l ++ others) (sym (take_more_set row kept letter room)) ∙ ap (λ l. take (kept + 1) l ++ others) (sym now);
      left = sym (drop-drop size at bytes) ∙ ap (λ n. drop n (drop at bytes)) long ∙ ap (drop (length (encode c))) f.3 ∙ drop-append_seam (encode c) behind;
      small = f.5;
    }

no_rest : (rest : List ℕ) → encode_utf8_all rest ≡ [] → All (λ c. c < 65536) rest → rest ≡ []
no_rest [] is small = refl
no_rest (c ∷ cs) is small =
    let all : length (encode c) + length (encode_utf8_all cs) ≡ 0 = sym (length-append (encode c) (encode_utf8_all cs)) ∙ ap length is in
    elim (stands (encode c ++ encode_utf8_all cs) (encode_utf8_all cs) c (All-head (λ x. x < 65536) c cs small) refl) [
      | One l e size ↦ absurd (omega (arith, all, size))
      | Two l m first second size ↦ absurd (omega (arith, all, size))
      | Three l first second third size ↦ absurd (omega (arith, all, size))
    ]

pub decodes_end : (cs bytes row : List ℕ) (kept at : ℕ) → Decodes cs bytes row kept at → length bytes ≤ at → take kept row ≡ take (length row) cs
decodes_end cs bytes row kept at d none =
    let last : d.rest ≡ [] = no_rest d.rest (sym d.left ∙ drop_of_length-le bytes none) d.small in
    let all : cs ≡ take kept row = d.is ∙ ap (λ l. take kept row ++ l) last ∙ append-nil (take kept row) in
    sym (ap (take (length row)) all ∙ take_all (length row) (take kept row) (omega (arith, length-take-le kept row d.fits, d.fits)))

pub decodes_full : (cs bytes row : List ℕ) (kept at : ℕ) → Decodes cs bytes row kept at → kept ≡ length row → take kept row ≡ take (length row) cs
decodes_full cs bytes row kept at d full =
    let long : length (take kept row) ≡ kept = length-take-le kept row d.fits in
    sym (ap (take (length row)) d.is ∙ take-append-le (length row) (take kept row) d.rest (omega (arith, long, full)) ∙ take_all (length row) (take kept row) (omega (arith, long, full)))
