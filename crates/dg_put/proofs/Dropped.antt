-- What is left of a list behind its next thing.
use Rattle.std.proofs.Common.{◌≡◌, ◌+◌, ◌<◌, ℕ, zero, suc, List, [], ◌∷◌, drop, get_or, length, sym, ◌∙◌, ap, arith}

pub dropped_item : {X : Type 0} (xs : List X) (i j : ℕ) (x : X) → j ≡ i + 1 → x ≡ get_or xs i x → i < length xs → drop i xs ≡ x ∷ drop j xs
dropped_item {X = X} xs i j x e is h = by xs i is h ∙ ap (λ (k : ℕ). x ∷ drop k xs) (next e)
  where
    by : (ys : List X) (k : ℕ) → x ≡ get_or ys k x → k < length ys → drop k ys ≡ x ∷ drop (suc k) ys
    by [] k f g = absurd (omega arith)
    by (y ∷ ys) zero f g = ap (λ (z : X). z ∷ ys) (sym f)
    by (y ∷ ys) (suc k) f g = by ys k f (omega arith)

    next : j ≡ i + 1 → suc i ≡ j
    next f = omega (arith, f)
