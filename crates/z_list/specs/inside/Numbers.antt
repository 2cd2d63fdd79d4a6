-- Numbers in decimal, digit by digit.
use Rattle.std.specs.Prelude.{◌≤◌, ℕ, ◌+◌, ◌-◌, ◌*◌, List, [], ◌∷◌}

pub record IsDigit (c : ℕ) : Type 0 where
  pub least : 48 ≤ c
  pub most : c ≤ 57

abbrev pub AreDigits : List ℕ → Type 0
AreDigits [] = Unit {0}
AreDigits (c ∷ cs) = IsDigit c × AreDigits cs

-- the number that digits go on to, behind others
abbrev pub read_on : ℕ → List ℕ → ℕ
read_on n [] = n
read_on n (c ∷ cs) = read_on (10 * n + (c - 48)) cs
