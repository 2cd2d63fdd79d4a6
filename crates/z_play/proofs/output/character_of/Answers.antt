use Rattle.std.proofs.Common.{◌≡◌, ◌<◌, ◌-◌, ◌≤◌, ℕ, zero, suc, Bool, true, false, cond, ltb, List, [], ◌∷◌, get_or, refl, sym, arith}
use Rattle.std.proofs.lemmas.Bool.{ltb-true, ne_eqb, le-ltb}
use Rattle.std.proofs.lemmas.List.{get_or_past}
use Rattle.z_model.specs.Zscii.{character_of}
use Rattle.dg_base.specs.Typed.{extra}
use Rattle.z_play.proofs.output.character_of.Goals as goal

abbrev all_low : List ℕ → Bool
all_low [] = true
all_low (x ∷ xs) = cond (ltb x 55296) (all_low xs) false

low_at : (xs : List ℕ) (k : ℕ) → all_low xs ≡ true → get_or xs k 0 < 55296
low_at [] k e = omega arith
low_at (x ∷ xs) k e = by_test (ltb x 55296) refl (λ h j. low_at xs j h) k e
  where
    by_test : (t : Bool) → ltb x 55296 ≡ t → (all_low xs ≡ true → (j : ℕ) → get_or xs j 0 < 55296) → (k : ℕ) → cond t (all_low xs) false ≡ true → get_or (x ∷ xs) k 0 < 55296
    by_test false is later k e = absurd cc
    by_test true is later zero e = ltb-true x 55296 is
    by_test true is later (suc k) e = later e k

past_extra : (code : ℕ) → 127 ≤ code → 69 ≤ code - 155 → character_of code ≡ 0
past_extra code above past = rw (ne_eqb code 13 (λ e. absurd (omega arith)), le-ltb code 127 above, get_or_past extra (code - 155) 0 past) refl

pub returns-then-place-lt69-clause-below : goal.returns-then-place-lt69-clause-below
returns-then-place-lt69-clause-below c = low_at extra c.saturating_sub-place.result refl

pub returns-else-place-lt69-clause-character : goal.returns-else-place-lt69-clause-character
returns-else-place-lt69-clause-character c = sym (past_extra c.args.code (omega arith) (omega arith))
