-- The bytes of a word's spelling, from its end on.
use Rattle.std.proofs.Common.{◌≡◌, ℕ, suc, ◌+◌, ◌*◌, ◌<◌, ◌≤◌, true, List, [], ◌∷◌, ◌++◌, length, refl, sym, ap, ◌∙◌, subst, arith, append_assoc, append-nil, length-append}
use Rattle.std.specs.Prelude.{All, encode_utf8_all}
use Rattle.std.specs.Str.{chars, all_scalars}
use Rattle.std.proofs.lemmas.List.Elements.{All-head, All-tail}
use Rattle.std.proofs.lemmas.Str.{chars-encodes}
use Rattle.std.proofs.Math.Utf8.{encode}
use Rattle.dg_base.specs.Sound.{IsPrintable, IsName}
use Rattle.z_lang.specs.State.{Program}
use Rattle.dg_rt.specs.Dictionary.{BytesStand}
use Rattle.dg_rt.proofs.FindingWords.{stand_behind, AreSmall}
use Rattle.dg_rt.proofs.SplitLists.{onto}
use Rattle.dg_rt.proofs.WordLetters.{Encoded, one, two, three, encoded}

-- ## Characters

scalars_in : (cs : List ℕ) → All IsPrintable cs → all_scalars cs ≡ true
scalars_in [] h = refl
scalars_in (c ∷ cs) h = rw ((All-head IsPrintable c cs h).scalar, scalars_in cs (All-tail IsPrintable c cs h)) refl

pub name_letters : (bytes : List ℕ) (h : IsName bytes) → chars bytes ≡ h.characters
name_letters bytes h = ap chars h.encoded ∙ chars-encodes h.characters (scalars_in h.characters h.printable)

-- ## Bytes

abbrev pub NoZero : List ℕ → Type 0
NoZero [] = Unit {0}
NoZero (b ∷ bs) = ((0 < b) × (b < 256)) × NoZero bs

pub no_zero_all : (cs : List ℕ) → AreSmall cs → NoZero (encode_utf8_all cs)
no_zero_all [] small = tt
no_zero_all (c ∷ cs) small = by_form (encoded c small.0.0) (no_zero_all cs small.1)
  where
    by_form : Encoded c → NoZero (encode_utf8_all cs) → NoZero (encode c ++ encode_utf8_all cs)
    by_form (one lt is) rest = let some = small.0.1 in rw is ((some, omega arith), rest)
    by_form (two a b la ha lb hb same is) rest = rw is ((omega arith, omega arith), ((omega arith, omega arith), rest))
    by_form (three a b d la ha lb hb ld hd same is) rest = rw is ((omega arith, omega arith), ((omega arith, omega arith), ((omega arith, omega arith), rest)))

pub encoded_some : (c : ℕ) → c < 65536 → (0 < length (encode c)) × (length (encode c) ≤ 3)
encoded_some c small = by_form (encoded c small)
  where
    by_form : Encoded c → (0 < length (encode c)) × (length (encode c) ≤ 3)
    by_form (one lt is) = rw is (omega arith, omega arith)
    by_form (two a b la ha lb hb same is) = rw is (omega arith, omega arith)
    by_form (three a b d la ha lb hb ld hd same is) = rw is (omega arith, omega arith)

pub few_bytes : (cs : List ℕ) → AreSmall cs → length (encode_utf8_all cs) ≤ 3 * length cs
few_bytes [] small = omega arith
few_bytes (c ∷ cs) small =
    let a = length-append (encode c) (encode_utf8_all cs) in
    let b = (encoded_some c small.0.0).1 in
    let e = few_bytes cs small.1 in
    omega arith

-- ## From the last character on

-- How many bytes characters have, and where they stand, if they are given from the last one on.
abbrev pub bytes_of : List ℕ → ℕ
bytes_of [] = 0
bytes_of (c ∷ cs) = bytes_of cs + length (encode c)

module _ (p : Program) (story : List ℕ) where
  abbrev pub StandBack : ℕ → List ℕ → Type 0
  StandBack x [] = Unit {0}
  StandBack x (c ∷ cs) = BytesStand p story (x + bytes_of cs) (encode c ++ []) × StandBack x cs

  stand_front : (x : ℕ) (bs cs : List ℕ) → BytesStand p story x (bs ++ cs) → BytesStand p story x bs
  stand_front x [] cs h = tt
  stand_front x (b ∷ bs) cs h = (h.0, stand_front (suc x) bs cs h.1)

  pub stand_back : (x : ℕ) (rs ys tail : List ℕ) → BytesStand p story x (encode_utf8_all (onto rs ys) ++ tail) → StandBack x rs × BytesStand p story (x + bytes_of rs) (encode_utf8_all ys ++ tail)
  stand_back x [] ys tail h = let e : x ≡ x + 0 = omega arith in (tt, subst (λ (i : ℕ). BytesStand p story i (encode_utf8_all ys ++ tail)) e h)
  stand_back x (c ∷ rs) ys tail h =
      let r = stand_back x rs (c ∷ ys) tail h in
      let there = subst (BytesStand p story (x + bytes_of rs)) (append_assoc (encode c) (encode_utf8_all ys) tail) r.1 in
      let own = stand_front (x + bytes_of rs) (encode c) (encode_utf8_all ys ++ tail) there in (
        (subst (BytesStand p story (x + bytes_of rs)) (sym (append-nil (encode c))) own, r.0),
        stand_behind p story (x + bytes_of rs) (x + bytes_of (c ∷ rs)) (encode c) (encode_utf8_all ys ++ tail) (omega arith) there,
      )

  pub bytes_onto : (rs ys : List ℕ) → length (encode_utf8_all (onto rs ys)) ≡ bytes_of rs + length (encode_utf8_all ys)
  bytes_onto [] ys = omega arith
  bytes_onto (c ∷ rs) ys = bytes_onto rs (c ∷ ys) ∙ (let a = length-append (encode c) (encode_utf8_all ys) in omega arith)
