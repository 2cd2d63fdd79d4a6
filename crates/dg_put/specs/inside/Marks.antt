-- The marks of names, by which access rules are found. The proofs alone rest on it.
use Rattle.std.specs.Prelude.{ℕ, ◌+◌, ◌*◌, ◌^◌, ◌%◌, ◌||◌, List, [], ◌∷◌, Bool, nat_eq, if◌then◌else◌}

-- A parenthesis, a space or a backslash, which doesn't count.
abbrev pub is_passed : ℕ → Bool
is_passed c = nat_eq c 92 || (nat_eq c 32 || (nat_eq c 40 || nat_eq c 41))

-- The number of a text with a byte more.
unfoldable pub mix : ℕ → ℕ → ℕ
mix sum c = if is_passed c then sum else ((sum * 31) % 2 ^ 32 + c) % 2 ^ 32

abbrev pub mix_all : ℕ → List ℕ → ℕ
mix_all sum [] = sum
mix_all sum (c ∷ cs) = mix_all (mix sum c) cs

-- The mark of a name.
abbrev pub mark_of : List ℕ → ℕ
mark_of name = mix_all 0 name % 509
