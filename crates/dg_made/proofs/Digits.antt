-- What passes for each digit passes for a number.
use Rattle.std.proofs.Common.{◌≡◌, ◌+◌, ◌-◌, ◌<◌, ◌^◌, ℕ, Bool, true, List, [], ◌∷◌, decimal, refl, subst, arith}
use Rattle.std.specs.List.{list_all}
use Rattle.std.specs.Str.Parse.{AllDigits}
use Rattle.std.proofs.lemmas.Bool.{and_from, agree_below, agree_below_at}
use Rattle.std.proofs.lemmas.Fmt.{decimal_is_IsNumeral}
use Rattle.std.proofs.lemmas.Str.Parse.{digit_from_value}
use Rattle.dg_lex.specs.Chars.{is_name_char}
use Rattle.dg_made.proofs.Mere.{is_mere}

all_digits : (p : ℕ → Bool) → agree_below (λ k. p (48 + k)) (λ k. true) 10 ≡ true → (ds : List ℕ) → AllDigits 10 ds → list_all p ds ≡ true
all_digits p h [] d = refl
all_digits p h (c ∷ ds) d =
    let (low, high) = digit_from_value c d.0 in
    let is : 48 + (c - 48) ≡ c = omega (arith, low) in
    let one = agree_below_at (λ k. p (48 + k)) (λ k. true) 10 (c - 48) h (omega (arith, high)) in
    and_from (p c) (list_all p ds) (subst (λ e. p e ≡ true) is one) (all_digits p h ds d.1)

-- The digits of a number may stand in a name.
pub digits_named : (n : ℕ) → n < 2 ^ 64 → list_all is_name_char (decimal n) ≡ true
digits_named n h = all_digits is_name_char refl (decimal n) (decimal_is_IsNumeral n h).0.1

-- They are plain characters.
pub digits_mere : (n : ℕ) → n < 2 ^ 64 → list_all is_mere (decimal n) ≡ true
digits_mere n h = all_digits is_mere refl (decimal n) (decimal_is_IsNumeral n h).0.1
