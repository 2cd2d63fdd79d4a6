-- Numbers that are tried one after the other.
use Rattle.std.proofs.Common.{◌≡◌, ◌+◌, ◌-◌, ◌<◌, ◌≤◌, ◌∙◌, ℕ, zero, suc, List, Bool, true, false, ap, arith}
use Rattle.std.specs.Prelude.{if◌then◌else◌}
use Rattle.dg_plain.specs.Items.{begins_one, first_free}
use Rattle.dg_plain.specs.Plain.{choice_mark}

one_less : (k len : ℕ) → k < len → len - k ≡ suc (len - (k + 1))
one_less k len lt = omega (arith, lt)

free_at : (names : List (List ℕ)) (k left : ℕ) (taken : Bool) → begins_one names (choice_mark k) ≡ taken → first_free names k (suc left) ≡ (if taken then first_free names (k + 1) left else k)
free_at names k left taken is = ap (λ (b : Bool). if b then first_free names (k + 1) left else k) is

pub free_step : (names : List (List ℕ)) (k len : ℕ) → k < len → begins_one names (choice_mark k) ≡ true → first_free names k (len - k) ≡ first_free names (k + 1) (len - (k + 1))
free_step names k len lt is = ap (λ (n : ℕ). first_free names k n) (one_less k len lt) ∙ free_at names k (len - (k + 1)) true is

pub free_here : (names : List (List ℕ)) (k len : ℕ) → k < len → begins_one names (choice_mark k) ≡ false → first_free names k (len - k) ≡ k
free_here names k len lt is = ap (λ (n : ℕ). first_free names k n) (one_less k len lt) ∙ free_at names k (len - (k + 1)) false is

none_left : (k len : ℕ) → len ≤ k → len - k ≡ zero
none_left k len le = omega (arith, le)

pub free_end : (names : List (List ℕ)) (k len : ℕ) → len ≤ k → first_free names k (len - k) ≡ k
free_end names k len le = ap (λ (n : ℕ). first_free names k n) (none_left k len le)
