-- One more turn in a circle, and one more pick.
use Rattle.std.proofs.Common.{◌≡◌, ℕ, ◌+◌, ◌%◌, ◌≤◌, min, ap, sym, refl, ◌∙◌, arith}
use Rattle.std.proofs.Math.Nat.{mod-add-mod, add-mod_right}
use Rattle.dg_base.specs.declared.program.Mode.{Mode}
use Rattle.dg_base.specs.declared.program.Mode.TheVariants.{Stopping, Cycling, PurelyAtRandom, AtRandom, ThenAtRandom, ThenPurelyAtRandom}
use Rattle.dg_choose.specs.Site.{turn_of}

pub turned : (at n k l : ℕ) → at ≡ n % l → k ≡ l → (at + 1) % k ≡ (n + 1) % l
turned at n k l e f = ap (λ x. (x + 1) % k) e ∙ ap (λ x. (n % l + 1) % x) f ∙ mod-add-mod n l 1

ended : (m n k : ℕ) → min m k ≡ min n k → min (m + 1) k ≡ min (n + 1) k
ended m n k e = omega (arith, e)

-- picks that a mode takes for the same are so behind one more
pub more_turned : (mode : Mode) (k m n : ℕ) → turn_of mode k m ≡ turn_of mode k n → turn_of mode k (m + 1) ≡ turn_of mode k (n + 1)
more_turned Cycling k m n e = sym (mod-add-mod m k 1) ∙ turned (m % k) n k k e refl
more_turned Stopping k m n e = ended m n k e
more_turned PurelyAtRandom k m n e = ended m n k e
more_turned AtRandom k m n e = ended m n k e
more_turned ThenAtRandom k m n e = ended m n k e
more_turned ThenPurelyAtRandom k m n e = ended m n k e

-- so are few of them and many
pub turned_back : (mode : Mode) (k m : ℕ) → k ≤ m + 1 → turn_of mode k (m % k + k + 1) ≡ turn_of mode k (m + 1)
turned_back Cycling k m le = ap (λ x. x % k) (let same : m % k + k + 1 ≡ (m % k + 1) + k = omega arith in same) ∙ add-mod_right (m % k + 1) k ∙ mod-add-mod m k 1
turned_back Stopping k m le = omega (arith, le)
turned_back PurelyAtRandom k m le = omega (arith, le)
turned_back AtRandom k m le = omega (arith, le)
turned_back ThenAtRandom k m le = omega (arith, le)
turned_back ThenPurelyAtRandom k m le = omega (arith, le)
