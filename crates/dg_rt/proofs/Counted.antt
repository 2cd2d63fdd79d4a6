-- How many characters a text has.
use Rattle.std.proofs.Common.{◌≡◌, ℕ, zero, suc, ◌+◌, ◌-◌, ◌/◌, ◌<◌, ◌≤◌, inl, inr, Bool, true, false, List, [], ◌∷◌, ◌++◌, length, replicate, Option, Some, None, refl, sym, ap, ◌∙◌, arith, append_assoc}
use Rattle.std.specs.Prelude.{encode_utf8_all, nat_lt, nat_le, ◌||◌, if◌then◌else◌}
use Rattle.std.specs.List.{list_any}
use Rattle.std.proofs.lemmas.Bool.{lt-ltb, le-ltb, le-leb, ltb-false, cases_lt}
use Rattle.std.proofs.Math.Utf8.{encode}
use Rattle.dg_meaning.specs.Render.{is_line, is_par, is_upper, spaces_from, spaces_of, last_asked, space_for, upper, capital, separator, first_of, Met, met_behind, met_from, render_from, written, characters}
use Rattle.dg_meaning.specs.World.{Print, Piece}
use Rattle.dg_rt.proofs.Encoding.{AllSmall}
use Rattle.dg_rt.proofs.First.{upper_low, upper_high, upper_letter}

abbrev counted : ℕ → ℕ
counted b = if nat_lt b 128 || nat_le 192 b then 1 else 0

pub characters_on : (xs ys : List ℕ) → characters (xs ++ ys) ≡ characters xs + characters ys
characters_on [] ys = omega arith
characters_on (x ∷ xs) ys = let r = characters_on xs ys in omega arith

spaces_counted : (n : ℕ) → characters (replicate n 32) ≡ n
spaces_counted zero = refl
spaces_counted (suc n) = let r = spaces_counted n in omega arith

-- what separates texts has the spaces that are counted
separated_by : (par line some : Bool) (n : ℕ) (s z : List ℕ) → characters s ≡ n → (some ≡ false → n ≡ 0) → n ≤ characters (if par then 10 ∷ 10 ∷ s else (if line then 10 ∷ s else (if some then s else z)))
separated_by true line some n s z e none = omega arith
separated_by false true some n s z e none = omega arith
separated_by false false true n s z e none = omega arith
separated_by false false false n s z e none = let q = none refl in omega arith

pub separator_counted : (gap : List Print) (last : Option ℕ) (c : ℕ) → spaces_from 0 gap ≤ characters (separator gap last c)
separator_counted gap None c = let e = spaces_counted (spaces_from 0 gap) in omega arith
separator_counted gap (Some b) c =
    separated_by (list_any is_par gap) (list_any is_line gap) (nat_lt 0 (spaces_from 0 gap)) (spaces_from 0 gap) (spaces_of gap) (space_for (last_asked None gap) b c) (spaces_counted (spaces_from 0 gap))
    (λ e. (let le = ltb-false 0 (spaces_from 0 gap) e in omega arith))

low_counted : (b : ℕ) → b < 128 → counted b ≡ 1
low_counted b lt = rw (lt-ltb b 128 lt) refl

first_counted : (b : ℕ) → 192 ≤ b → counted b ≡ 1
first_counted b le = rw (le-ltb b 128 (omega (arith, le)), le-leb 192 b le) refl

upper_counted : (b : ℕ) → counted (upper b) ≡ counted b
upper_counted b = elim (cases_lt b 97) [
  | inl low ↦ ap counted (upper_low b low)
  | inr le ↦ elim (cases_lt 122 b) [
    | inl high ↦ ap counted (upper_high b high)
    | inr le' ↦ ap counted (upper_letter b le le') ∙ low_counted (b - 32) (omega arith) ∙ sym (low_counted b (omega arith))
  ]
]

capital_by : (t : Bool) (b : ℕ) → counted (if t then upper b else b) ≡ counted b
capital_by true b = upper_counted b
capital_by false b = refl

capital_counted : (gap : List Print) (bytes : List ℕ) → characters (capital gap bytes) ≡ characters bytes
capital_counted gap [] = refl
capital_counted gap (b ∷ bs) = ap (λ (i : ℕ). i + characters bs) (capital_by (list_any is_upper gap) b)

-- each character has a first byte
encode_counted : (c : ℕ) → c < 65536 → 1 ≤ characters (encode c)
unfolding encode
encode_counted c lt = elim (cases_lt c 128) [
  | inl one ↦ rw (lt-ltb c 128 one) (let k = low_counted c one in omega arith)
  | inr le ↦ elim (cases_lt c 2048) [
    | inl two ↦ rw (le-ltb c 128 le, lt-ltb c 2048 two) (let k = first_counted (192 + c / 64) (omega arith) in omega arith)
    | inr le' ↦ rw (le-ltb c 128 le, le-ltb c 2048 le', lt-ltb c 65536 lt) (let k = first_counted (224 + c / 4096) (omega arith) in omega arith)
  ]
]

pub text_counted : (cs : List ℕ) → AllSmall cs → length cs ≤ characters (encode_utf8_all cs)
text_counted [] small = omega arith
text_counted (c ∷ cs) small =
    let one = encode_counted c small.0 in
    let more = text_counted cs small.1 in
    let both = characters_on (encode c) (encode_utf8_all cs) in
    omega arith

-- A piece has no fewer characters, with what separates it, than its own and the spaces in front of it.
pub written_counted : (m : Met) (bytes : List ℕ) → spaces_from 0 m.gap + characters bytes ≤ characters (written m (Piece bytes))
written_counted m bytes =
    let first = separator_counted m.gap m.last (first_of bytes) in
    let both = characters_on (separator m.gap m.last (first_of bytes)) (capital m.gap bytes) in
    let same = capital_counted m.gap bytes in
    omega arith

-- ## One thing behind another

pub met_on : (m : Met) (xs ys : List Print) → met_from m (xs ++ ys) ≡ met_from (met_from m xs) ys
met_on m [] ys = refl
met_on m (x ∷ xs) ys = met_on (met_behind m x) xs ys

pub render_on : (m : Met) (xs ys : List Print) → render_from m (xs ++ ys) ≡ render_from m xs ++ render_from (met_from m xs) ys
render_on m [] ys = refl
render_on m (x ∷ xs) ys =
    ap (λ (l : List ℕ). written m x ++ l) (render_on (met_behind m x) xs ys)
    ∙ sym (append_assoc (written m x) (render_from (met_behind m x) xs) (render_from (met_from (met_behind m x) xs) ys))
