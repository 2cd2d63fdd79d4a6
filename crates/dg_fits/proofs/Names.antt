-- Names as text: how many characters they have, and a test of them.
use Rattle.std.specs.Prelude.{nat_lt, nat_le, nat_eq, not, ◌&&◌, ◌||◌, if◌then◌else◌, All, encode_utf8_all}
use Rattle.std.proofs.Common.{◌≡◌, ◌≢◌, ℕ, ◌+◌, ◌/◌, ◌<◌, ◌≤◌, inl, inr, List, [], ◌∷◌, ◌++◌, length, Bool, true, false, refl, sym, ◌∙◌, ap, subst, arith}
use Rattle.std.specs.Str.{chars, bytes_eq}
use Rattle.std.proofs.Math.Utf8.{encode, scalar}
use Rattle.std.proofs.lemmas.Bool.{ltb-true, lt-ltb, le-ltb, le-leb, cases_lt, and_parts, eq-eqb, ne_eqb}
use Rattle.std.proofs.lemmas.List.Elements.{All-nil, All-cons, All-head, All-tail}
use Rattle.std.proofs.lemmas.Slice.Eq.{bytes_eq-Decides}
use Rattle.dg_base.specs.Sound.{IsName, IsPrintable}
use Rattle.dg_meaning.specs.Render.{characters}
use Rattle.dg_emit.proofs.Names.{name_chars}

-- ## How many

abbrev counted : ℕ → ℕ
counted b = if nat_lt b 128 || nat_le 192 b then 1 else 0

characters_on : (xs ys : List ℕ) → characters (xs ++ ys) ≡ characters xs + characters ys
characters_on [] ys = omega arith
characters_on (x ∷ xs) ys = let r = characters_on xs ys in omega arith

low_counted : (b : ℕ) → b < 128 → counted b ≡ 1
low_counted b lt = rw (lt-ltb b 128 lt) refl

first_counted : (b : ℕ) → 192 ≤ b → counted b ≡ 1
first_counted b le = rw (le-ltb b 128 (omega (arith, le)), le-leb 192 b le) refl

-- each character has a first byte
encode_counted : (c : ℕ) → c < 65536 → 1 ≤ characters (encode c)
unfolding encode
encode_counted c lt = elim (cases_lt c 128) [
  | inl one ↦ rw (lt-ltb c 128 one) (let k = low_counted c one in omega arith)
  | inr le ↦ elim (cases_lt c 2048) [
    | inl two ↦ rw (le-ltb c 128 le, lt-ltb c 2048 two) (let k = first_counted (192 + c / 64) (omega arith) in omega arith)
    | inr le' ↦ rw (le-ltb c 128 le, le-ltb c 2048 le', lt-ltb c 65536 lt) (let k = first_counted (224 + c / 4096) (omega arith) in omega arith)
  ]
]

text_counted : (cs : List ℕ) → All IsPrintable cs → length cs ≤ characters (encode_utf8_all cs)
text_counted [] all = omega arith
text_counted (c ∷ cs) all =
    let to = (All-head IsPrintable c cs all).to in
    let one = encode_counted c (omega (arith, to)) in
    let more = text_counted cs (All-tail IsPrintable c cs all) in
    let both = characters_on (encode c) (encode_utf8_all cs) in
    omega arith

pub chars_few : (text : List ℕ) → IsName text → length (chars text) ≤ characters text
chars_few text is =
    let same = ap length (name_chars text is) in
    let whole = ap characters is.encoded in
    omega (arith, text_counted is.characters is.printable)

-- ## A test

abbrev char_ok : ℕ → Bool
char_ok c = nat_lt 31 c && (nat_lt c 65536 && (scalar c && not (nat_eq c 127)))

abbrev chars_ok : List ℕ → Bool
chars_ok [] = true
chars_ok (c ∷ cs) = char_ok c && chars_ok cs

abbrev some_ok : List ℕ → Bool
some_ok [] = false
some_ok (c ∷ cs) = true

-- a name is what its characters encode, each of which can be printed
abbrev pub name_ok : List ℕ → Bool
name_ok text = bytes_eq text (encode_utf8_all (chars text)) && (some_ok (chars text) && chars_ok (chars text))

both : {a b : Bool} → a ≡ true → b ≡ true → (a && b) ≡ true
both {b = b} e f = ap (λ (x : Bool). x && b) e ∙ f

not_delete : (c : ℕ) → c ≢ 127 → not (nat_eq c 127) ≡ true
not_delete c ne = ap not (ne_eqb c 127 ne)

is_delete : (c : ℕ) → not (nat_eq c 127) ≡ true → c ≢ 127
is_delete c e is = let yes = eq-eqb c 127 is in cc (yes, e)

char_passes : (c : ℕ) → IsPrintable c → char_ok c ≡ true
char_passes c is =
    let from = is.from in
    let to = is.to in
    both (lt-ltb 31 c (omega arith)) (both (lt-ltb c 65536 (omega arith)) (both is.scalar (not_delete c is.no_delete)))

char_is : (c : ℕ) → char_ok c ≡ true → IsPrintable c
char_is c e =
    let a = and_parts (nat_lt 31 c) (nat_lt c 65536 && (scalar c && not (nat_eq c 127))) e in
    let b = and_parts (nat_lt c 65536) (scalar c && not (nat_eq c 127)) a.1 in
    let d = and_parts (scalar c) (not (nat_eq c 127)) b.1 in
    let from = ltb-true 31 c a.0 in
    let to = ltb-true c 65536 b.0 in
    record { from = omega arith; to = omega arith; scalar = d.0; no_delete = is_delete c d.1 }

all_pass : (cs : List ℕ) → All IsPrintable cs → chars_ok cs ≡ true
all_pass [] all = refl
all_pass (c ∷ cs) all = both (char_passes c (All-head IsPrintable c cs all)) (all_pass cs (All-tail IsPrintable c cs all))

all_are : (cs : List ℕ) → chars_ok cs ≡ true → All IsPrintable cs
all_are [] e = All-nil IsPrintable
all_are (c ∷ cs) e =
    let h = and_parts (char_ok c) (chars_ok cs) e in
    All-cons IsPrintable c cs (char_is c h.0) (all_are cs h.1)

some_passes : (cs : List ℕ) → cs ≢ [] → some_ok cs ≡ true
some_passes [] ne = absurd (ne refl)
some_passes (c ∷ cs) ne = refl

some_is : (cs : List ℕ) → some_ok cs ≡ true → cs ≢ []
some_is [] e is = cc e
some_is (c ∷ cs) e is = cc is

pub name_passes : (text : List ℕ) → IsName text → name_ok text ≡ true
name_passes text is =
    let same = name_chars text is in
    let whole : text ≡ encode_utf8_all (chars text) = is.encoded ∙ ap encode_utf8_all (sym same) in
    both ((bytes_eq-Decides text (encode_utf8_all (chars text))).1 whole)
    (both (ap some_ok same ∙ some_passes is.characters is.some) (ap chars_ok same ∙ all_pass is.characters is.printable))

pub name_is : (text : List ℕ) → name_ok text ≡ true → IsName text
name_is text e =
    let cs = chars text in
    let a = and_parts (bytes_eq text (encode_utf8_all cs)) (some_ok cs && chars_ok cs) e in
    let b = and_parts (some_ok cs) (chars_ok cs) a.1 in
    record { characters = cs; some = some_is cs b.0; printable = all_are cs b.1; encoded = (bytes_eq-Decides text (encode_utf8_all cs)).0 a.0 }

-- ## Each is a word

abbrev pub AreSmall : List ℕ → Type 0
AreSmall [] = Unit {0}
AreSmall (c ∷ cs) = (c < 65536) × AreSmall cs

small_are : (cs : List ℕ) → All IsPrintable cs → AreSmall cs
small_are [] all = tt
small_are (c ∷ cs) all = let to = (All-head IsPrintable c cs all).to in (omega arith, small_are cs (All-tail IsPrintable c cs all))

pub chars_small : (text : List ℕ) → IsName text → AreSmall (chars text)
chars_small text is = subst AreSmall (sym (name_chars text is)) (small_are is.characters is.printable)
