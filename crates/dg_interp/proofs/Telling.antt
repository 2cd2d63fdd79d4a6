-- Calls that are told one after another.
use Rattle.std.proofs.Common.{◌≡◌, ℕ, zero, suc, List, [], ◌∷◌, ◌++◌, refl}
use Rattle.std.specs.Prelude.{replicate}
use Rattle.dg_interp.specs.inside.Engine.{with_all}

pub all_more : {A : Type 0} (xs : List A) (x : A) (n : ℕ) → with_all xs (replicate (suc n) x) ≡ with_all xs (replicate n x) ++ x ∷ []
all_more xs x zero = refl
all_more xs x (suc n) = all_more (xs ++ x ∷ []) x n
