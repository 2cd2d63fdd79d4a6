-- A memory whose rights stay is as long as before, and keeps its static base.
use Rattle.std.proofs.Common.{◌≡◌, ℕ, ◌-◌, ◌<◌, ◌≤◌, Bool, true, false, ltb, length, refl, sym, ap, ◌∙◌, arith}
use Rattle.std.proofs.lemmas.Bool.{ltb-true, ltb-false, le-ltb, lt-ltb, ne_eqb}
use Rattle.z_model.specs.Memory.{is_writable}
use Rattle.z_full.specs.Calls.{SameRights}
use Rattle.z_memory.specs.declared.memory.Story.{Story}
use Rattle.z_memory.specs.Rights.{based}
use Rattle.z_memory.specs.Story.{story_memory}

same_size : (x y : ℕ) → ((a : ℕ) → ltb a x ≡ ltb a y) → x ≡ y
same_size x y same =
    let le : x ≤ y = ltb-false y x (same y ∙ le-ltb y y (omega arith)) in
    let ge : y ≤ x = ltb-false x y (sym (same x) ∙ le-ltb x x (omega arith)) in
    omega arith

at_base : (b : ℕ) → 64 < b → is_writable (based b) b ≡ false
at_base b lt = rw (ne_eqb b 16 (λ e. absurd (omega arith)), ne_eqb b 17 (λ e. absurd (omega arith)), le-ltb b 64 (omega arith), le-ltb b b (omega arith)) refl

below_base : (b : ℕ) → 64 < b → is_writable (based b) (b - 1) ≡ true
below_base b lt = rw (ne_eqb (b - 1) 16 (λ e. absurd (omega arith)), ne_eqb (b - 1) 17 (λ e. absurd (omega arith)), le-ltb (b - 1) 64 (omega arith), lt-ltb (b - 1) b (omega arith)) refl

-- an address from 64 on is below the static base exactly where it may be written
is_below : (b a : ℕ) → 64 ≤ a → is_writable (based b) a ≡ ltb a b
is_below b a ge = rw (ne_eqb a 16 (λ e. absurd (omega arith)), ne_eqb a 17 (λ e. absurd (omega arith)), le-ltb a 64 ge) refl

same_base : (b b' : ℕ) → 64 < b → ((a : ℕ) → is_writable (based b') a ≡ is_writable (based b) a) → b' ≡ b
same_base b b' lt same =
    let le : b' ≤ b = ltb-false b b' (sym (is_below b' b (omega arith)) ∙ same b ∙ at_base b lt) in
    let ge : b - 1 < b' = ltb-true (b - 1) b' (sym (is_below b' (b - 1) (omega arith)) ∙ same (b - 1) ∙ below_base b lt) in
    omega arith

pub record SameStory (old new : Story) : Type 0 where
  pub size : length new.bytes.items ≡ length old.bytes.items
  pub base : new.base ≡ old.base

pub same_story : (old new : Story) → 64 < old.base → SameRights (story_memory old) (story_memory new) → SameStory old new
same_story old new lt same = record {
  size = same_size _ _ (λ a. ap (λ (f : ℕ → Bool). f a) same.reads);
  base = same_base old.base new.base lt (λ a. ap (λ (f : ℕ → Bool). f a) same.writes);
}
