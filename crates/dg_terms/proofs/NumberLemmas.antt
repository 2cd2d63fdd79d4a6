-- What comes of two values, where both are numbers.
use Rattle.std.proofs.Common.{◌≡◌, ℕ, Option, Some, None, refl}
use Rattle.dg_meaning.specs.Values.{Num, Value, Node}
use Rattle.dg_meaning.specs.Numbers.{of_numbers}
use Rattle.dg_terms.specs.Throwing.{number_in}

-- what comes of two numbers, where both are there
abbrev pub both : (ℕ → ℕ → Option ℕ) → Option ℕ → Option ℕ → Option ℕ
both f None o = None
both f (Some m) None = None
both f (Some m) (Some n) = f m n

pub of_both : (f : ℕ → ℕ → Option ℕ) (v u : Value) → of_numbers f v u ≡ both f (number_in v) (number_in u)
of_both f (Node (Num m) ms) (Node (Num n) ns) = refl
of_both f (Node (Num m) ms) u = refl
of_both f v u = refl
