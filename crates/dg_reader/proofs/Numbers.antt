-- Numbers that are too great.
use Rattle.std.proofs.Common.{◌≡◌, ◌≤◌, ◌<◌, ◌+◌, ◌-◌, ◌*◌, ℕ, List, [], ◌∷◌, None, arith}
use Rattle.std.proofs.lemmas.Bool.Decides.{nat_tests}
use Rattle.dg_reader.specs.Tokens.{digits_value, digits_number}

digits_grow : (v : ℕ) (cs : List ℕ) → v ≤ digits_value v cs
digits_grow v [] = omega arith
digits_grow v (c ∷ cs) = omega (arith, digits_grow (10 * v + (c - 48)) cs)

pub too_great : (v c : ℕ) (cs w : List ℕ) → digits_value v (c ∷ cs) ≡ digits_value 0 w → 16383 < 10 * v + (c - 48) → None ≡ digits_number w
too_great v c cs w same above =
    let h : 16383 < digits_value 0 w = omega (arith, digits_grow (10 * v + (c - 48)) cs) in
    grind (arith, nat_tests)
