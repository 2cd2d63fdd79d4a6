-- What stands at a place of a list that has grown, was cut or was written to.
use Rattle.std.proofs.Common.{◌≡◌, ℕ, zero, suc, ◌+◌, ◌-◌, ◌<◌, List, [], ◌∷◌, ◌++◌, refl, ap, ◌∙◌, arith, Some, ◌⊎◌, inl, inr, length, take, reverse, set}
use Rattle.std.specs.List.{slice_get}
use Rattle.std.proofs.lemmas.List.{take-take, reverse-append}

pub get_append : {X : Type 0} (xs extra : List X) (i : ℕ) (x : X) → slice_get xs i ≡ Some x → slice_get (xs ++ extra) i ≡ Some x
get_append [] extra i x h = absurd (cc h)
get_append (y ∷ xs) extra zero x h = h
get_append (y ∷ xs) extra (suc i) x h = get_append xs extra i x h

pub get_set_same : {X : Type 0} (xs : List X) (i : ℕ) (v : X) → i < length xs → slice_get (set xs i v) i ≡ Some v
get_set_same [] i v lt = absurd (omega arith)
get_set_same (x ∷ xs) zero v lt = refl
get_set_same (x ∷ xs) (suc i) v lt = get_set_same xs i v (omega arith)

pub get_set_other : {X : Type 0} (xs : List X) (i k : ℕ) (v : X) → (k ≡ i → ⊥) → slice_get (set xs i v) k ≡ slice_get xs k
get_set_other [] i k v ne = refl
get_set_other (x ∷ xs) zero zero v ne = absurd (ne refl)
get_set_other (x ∷ xs) zero (suc k) v ne = refl
get_set_other (x ∷ xs) (suc i) zero v ne = refl
get_set_other (x ∷ xs) (suc i) (suc k) v ne = get_set_other xs i k v (λ e. ne (ap suc e))

pub get_take : {X : Type 0} (n : ℕ) (xs : List X) (k : ℕ) → k < n → slice_get (take n xs) k ≡ slice_get xs k
get_take zero xs k lt = absurd (omega arith)
get_take (suc n) [] k lt = refl
get_take (suc n) (x ∷ xs) zero lt = refl
get_take (suc n) (x ∷ xs) (suc k) lt = get_take n xs k (omega arith)

-- at a place of two lists, one behind the other: it is in the first, or so far behind it in the second
pub get_either : {X : Type 0} (xs ys : List X) (i : ℕ) (y : X) → slice_get (xs ++ ys) i ≡ Some y → (slice_get xs i ≡ Some y) ⊎ ((j : ℕ) × (i ≡ length xs + j) × (slice_get ys j ≡ Some y))
get_either [] ys i y h = inr (i, omega arith, h)
get_either (x ∷ xs) ys zero y h = inl h
get_either (x ∷ xs) ys (suc i) y h = elim (get_either xs ys i y h) [ inl e ↦ inl e | inr e ↦ inr (e.0, omega (arith, e.1), e.2) ]

pub get_behind : {X : Type 0} (xs ys : List X) (y : X) → slice_get (xs ++ y ∷ ys) (length xs) ≡ Some y
get_behind [] ys y = refl
get_behind (x ∷ xs) ys y = get_behind xs ys y

pub reverse_snoc : {X : Type 0} (xs : List X) (x : X) → reverse (xs ++ x ∷ []) ≡ x ∷ reverse xs
reverse_snoc xs x = reverse-append xs (x ∷ [])

pub take_less : {X : Type 0} (a b f : List X) (n m : ℕ) → a ≡ take n f → b ≡ take (n - 1) a → m + 1 ≡ n → b ≡ take m f
take_less a b f n m ea eb e =
    let k : n - 1 ≡ m = omega arith in
    eb ∙ ap (λ j. take j a) k ∙ ap (take m) ea ∙ take-take m n f (omega arith)
