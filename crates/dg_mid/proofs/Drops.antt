-- Fronts of lists that were dropped.
use Rattle.std.specs.Prelude.{◌-◌}
use Rattle.std.proofs.Common.{◌≡◌, ℕ, zero, suc, ◌+◌, List, [], ◌∷◌, ap, ◌∙◌, arith, length, length-drop, drop}

pub drop_twice : {A : Type 0} (i k : ℕ) (xs : List A) → drop i (drop k xs) ≡ drop (k + i) xs
drop_twice i zero xs = let e : i ≡ 0 + i = omega arith in ap (λ n. drop n xs) e
drop_twice zero (suc k) [] = let e : suc k ≡ suc k + 0 = omega arith in ap (λ n. drop n []) e
drop_twice (suc i) (suc k) [] = let e : suc (k + suc i) ≡ suc k + suc i = omega arith in ap (λ n. drop n []) e
drop_twice i (suc k) (x ∷ xs) = let e : suc (k + i) ≡ suc k + i = omega arith in drop_twice i k xs ∙ ap (λ n. drop n (x ∷ xs)) e

-- what is left of a list is known by its length
pub drop_to : {A : Type 0} (k h : ℕ) (xs : List A) → length (drop k xs) ≡ h → drop k xs ≡ drop (length xs - h) xs
drop_to zero h xs e = let n : 0 ≡ length xs - h = omega (arith, e) in ap (λ k. drop k xs) n
drop_to (suc k) h [] e = let n : 0 ≡ 0 - h = omega arith in ap (λ k. drop k []) n
drop_to (suc k) h (x ∷ xs) e =
    let n : suc (length xs - h) ≡ suc (length xs) - h = omega (arith, e, length-drop k xs) in
    drop_to k h xs e ∙ ap (λ k. drop k (x ∷ xs)) n
