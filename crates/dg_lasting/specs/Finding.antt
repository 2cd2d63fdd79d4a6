-- The objects that a query tries. Hold it against docs/LANGUAGE.md, "The world".
use Rattle.std.specs.Prelude.{ℕ, zero, suc, List, [], ◌∷◌}

-- So many numbers, from one on.
abbrev pub counted : ℕ → ℕ → List ℕ
counted n zero = []
counted n (suc k) = n ∷ counted (suc n) k
