-- The bytes of characters: a character below 128 is its own byte, and the bytes of any other are all above.
use Rattle.std.proofs.Common.{◌≡◌, ℕ, ◌+◌, ◌/◌, ◌<◌, ◌≤◌, List, [], ◌∷◌, Bool, true, false, cond, refl, arith}
use Rattle.std.specs.Prelude.{nat_lt}
use Rattle.std.proofs.Math.Utf8.{encode, next}
use Rattle.std.proofs.lemmas.Bool.{ltb-true, ltb-false}

abbrev pub AreHigh : List ℕ → Type 0
AreHigh [] = Unit {0}
AreHigh (b ∷ bs) = (128 ≤ b) × AreHigh bs

-- there are some bytes, and they are all above those of ASCII
abbrev pub IsHigh : List ℕ → Type 0
IsHigh [] = ⊥
IsHigh (b ∷ bs) = (128 ≤ b) × AreHigh bs

pub data Encoded (c : ℕ) : Type 0 where
  AsItself : c < 128 → encode c ≡ c ∷ [] → Encoded c
  Higher : 128 ≤ c → IsHigh (encode c) → Encoded c

longer : (x y : Bool) (two three four : List ℕ) → IsHigh two → IsHigh three → IsHigh four → IsHigh (cond x two (cond y three four))
longer true y two three four h2 h3 h4 = h2
longer false true two three four h2 h3 h4 = h3
longer false false two three four h2 h3 h4 = h4

by_bytes : (c : ℕ) (b : Bool) → nat_lt c 128 ≡ b → Encoded c
unfolding encode
by_bytes c true h = AsItself (ltb-true c 128 h) (rw h refl)
by_bytes c false h =
    let two = (192 + c / 64) ∷ next c ∷ [] in
    let three = (224 + c / 4096) ∷ next (c / 64) ∷ next c ∷ [] in
    let four = (240 + c / 262144) ∷ next (c / 4096) ∷ next (c / 64) ∷ next c ∷ [] in
    let all : IsHigh (cond (nat_lt c 2048) two (cond (nat_lt c 65536) three four)) =
    longer (nat_lt c 2048) (nat_lt c 65536) two three four (omega arith, (omega arith, tt)) (omega arith, (omega arith, (omega arith, tt))) (omega arith, (omega arith, (omega arith, (omega arith, tt)))) in
    Higher (ltb-false c 128 h) (rw h all)

pub encoded : (c : ℕ) → Encoded c
encoded c = by_bytes c (nat_lt c 128) refl
