-- Words with a sign, as the code widens and divides them.
use Rattle.std.proofs.Common.{◌≡◌, ℕ, zero, suc, ◌<◌, ◌≤◌, ◌/◌, FitsSigned, w16, w32, ℤ, pos, to_z, of_z, Ok, refl, sym, ap, subst, ◌∙◌, arith}
use Rattle.std.specs.Int.RustNames.{int_div, int_rem}
use Rattle.std.proofs.lemmas.Int.{ints, to_z-of_z}
use Rattle.std.proofs.lemmas.Bool.{ne_eqb}
use native.Mathlib.Nat.{div-le_self}
use lib.IntN.{negsuc, neg_ℤ}
use lib.Signed.{mag, mag_rem}
use Rattle.z_model.specs.Numbers.{signed_16, wrapped_word, quotient, remainder}

fits_16 : (z : ℤ) → mag z < 32768 → FitsSigned w16 z
fits_16 z small = record { sfits = small }

fits_32 : (z : ℤ) → mag z < 32768 → FitsSigned w32 z
fits_32 z small = record { sfits = omega arith }

-- an `i16` as an `i32`
abbrev wide : ℤ → ℤ
wide z = to_z w16 (of_z w16 z)

widened : (z : ℤ) → mag z < 32768 → wide z ≡ z
widened z small = to_z-of_z w16 z (fits_16 z small)

pub fits_widened : (z : ℤ) → mag z < 32768 → FitsSigned w32 (wide z)
fits_widened z small = subst (FitsSigned w32) (sym (widened z small)) (fits_32 z small)

-- the same, as an operand
abbrev operand : ℤ → ℤ
operand z = to_z w32 (of_z w32 (wide z))

operand_is : (z : ℤ) → mag z < 32768 → operand z ≡ z
operand_is z small = to_z-of_z w32 (wide z) (fits_widened z small) ∙ widened z small

-- ---- what `/` and `%` ask

above_zero : (z : ℤ) → mag z < 32768 → (z ≡ pos 0 → ⊥) → 0 < of_z w32 z
above_zero (pos zero) small other = absurd (other refl)
above_zero (pos (suc n)) small other = omega arith
above_zero (negsuc n) small other = omega arith

not_zero : (z : ℤ) (b : ℕ) → b < 65536 → (b ≡ 0 → ⊥) → z ≡ signed_16 b → z ≡ pos 0 → ⊥
not_zero z b small other e at = grind (arith, ints)

below_zero : (n m : ℕ) → n ≤ suc m → mag (neg_ℤ (pos n)) ≤ m
below_zero zero m h = omega arith
below_zero (suc n) m h = omega arith

fits_divided : (a d : ℤ) → mag a < 32768 → FitsSigned w32 (int_div a d)
fits_divided (pos a) (pos b) small = record { sfits = omega (arith, div-le_self a b) }
fits_divided (pos a) (negsuc b) small = record { sfits = omega (arith, below_zero (a / suc b) a (omega (arith, div-le_self a (suc b)))) }
fits_divided (negsuc a) (pos b) small = record { sfits = omega (arith, below_zero (suc a / b) a (omega (arith, div-le_self (suc a) b))) }
fits_divided (negsuc a) (negsuc b) small = record { sfits = omega (arith, div-le_self (suc a) (suc b)) }

divided : (a d : ℤ) → mag a < 32768 → mag d < 32768 → int_div (operand a) (operand d) ≡ int_div a d
divided a d small_a small_d = λ i. int_div (operand_is a small_a i) (operand_is d small_d i)

pub divides : (a d : ℤ) (b : ℕ) → mag a < 32768 → mag d < 32768 → b < 65536 → (b ≡ 0 → ⊥) → d ≡ signed_16 b → (0 < of_z w32 (wide d)) × FitsSigned w32 (int_div (operand a) (operand d))
divides a d b small_a small_d small_b other e = (
  subst (λ (z : ℤ). 0 < of_z w32 z) (sym (widened d small_d)) (above_zero d small_d (not_zero d b small_b other e)),
  subst (FitsSigned w32) (sym (divided a d small_a small_d)) (fits_divided a d small_a),
)

-- ---- what they give

quotient_read : (a d : ℤ) → mag a < 32768 → mag d < 32768 → to_z w32 (of_z w32 (int_div (operand a) (operand d))) ≡ int_div a d
quotient_read a d small_a small_d = ap (λ (z : ℤ). to_z w32 (of_z w32 z)) (divided a d small_a small_d) ∙ to_z-of_z w32 (int_div a d) (fits_divided a d small_a)

remainder_read : (a d : ℤ) → mag a < 32768 → mag d < 32768 → to_z w32 (of_z w32 (int_rem (operand a) (operand d))) ≡ int_rem a d
remainder_read a d small_a small_d =
    let left : FitsSigned w32 (int_rem a d) = record { sfits = omega (arith, mag_rem a d) } in
    ap (λ (z : ℤ). to_z w32 (of_z w32 z)) (λ i. int_rem (operand_is a small_a i) (operand_is d small_d i)) ∙ to_z-of_z w32 (int_rem a d) left

pub quotient_is : (a d : ℤ) (x y w : ℕ) → mag a < 32768 → mag d < 32768 → a ≡ signed_16 x → d ≡ signed_16 y → (y ≡ 0 → ⊥) → w ≡ wrapped_word (to_z w32 (of_z w32 (int_div (operand a) (operand d)))) → Ok w ≡ quotient x y
unfolding quotient
quotient_is a d x y w small_a small_d p q other h = rw (ne_eqb y 0 other) (ap (λ (n : ℕ). Ok n) (h ∙ ap wrapped_word (quotient_read a d small_a small_d ∙ (λ i. int_div (p i) (q i)))))

pub remainder_is : (a d : ℤ) (x y w : ℕ) → mag a < 32768 → mag d < 32768 → a ≡ signed_16 x → d ≡ signed_16 y → (y ≡ 0 → ⊥) → w ≡ wrapped_word (to_z w32 (of_z w32 (int_rem (operand a) (operand d)))) → Ok w ≡ remainder x y
unfolding remainder
remainder_is a d x y w small_a small_d p q other h = rw (ne_eqb y 0 other) (ap (λ (n : ℕ). Ok n) (h ∙ ap wrapped_word (remainder_read a d small_a small_d ∙ (λ i. int_rem (p i) (q i)))))
