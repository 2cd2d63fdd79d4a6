-- Names that stand in one line. Hold it against docs/LANGUAGE.md, "Characters and tokens".
use Rattle.std.specs.Prelude.{◌≢◌, ℕ, List, [], All, get_or}

-- No newline stands in these names.
abbrev pub HaveNoNewline : List (List ℕ) → Type 0
HaveNoNewline names = (n : ℕ) → All (λ b. b ≢ 10) (get_or names n [])
