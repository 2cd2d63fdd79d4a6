-- The units of bytes, one by one, and those of a front.
use Rattle.std.proofs.Common.{◌≡◌, ℕ, zero, suc, ◌+◌, ◌-◌, ◌*◌, ◌<◌, ◌≤◌, Bool, true, false, cond, ltb, List, [], ◌∷◌, length, take, drop, get_or, Option, refl, sym, ap, subst, ◌∙◌, arith}
use Rattle.dg_base.specs.declared.units.Unit.{Unit}
use Rattle.dg_base.specs.Units.{is_two, is_three, is_four, unit_at, units_behind, units_of}

pub behind_dropped : (skipped : ℕ) (bytes : List ℕ) → units_behind skipped bytes ≡ units_of (drop skipped bytes)
unfolding units_behind
behind_dropped zero bytes = refl
behind_dropped (suc skipped) [] = refl
behind_dropped (suc skipped) (byte ∷ bytes) = behind_dropped skipped bytes

-- the first unit, and those behind it
pub units_first : (byte : ℕ) (bytes : List ℕ) → units_of (byte ∷ bytes) ≡ (unit_at byte bytes).character ∷ units_of (drop ((unit_at byte bytes).size - 1) bytes)
unfolding units_behind
units_first byte bytes = ap (λ (l : List (Option ℕ)). (unit_at byte bytes).character ∷ l) (behind_dropped ((unit_at byte bytes).size - 1) bytes)

record IsSize (n : ℕ) : Type 0 where
  least : 1 ≤ n
  most : n ≤ 4

sized : (n : ℕ) → 1 ≤ n → n ≤ 4 → IsSize n
sized n a b = record { least = a; most = b }

one_of : (t : Bool) (x y : Unit) → IsSize x.size → IsSize y.size → IsSize (cond t x y).size
one_of true x y p q = p
one_of false x y p q = q

size_is : (byte : ℕ) (bytes : List ℕ) → IsSize (unit_at byte bytes).size
unfolding unit_at
size_is byte bytes =
    one_of (ltb byte 128) _ _ (sized 1 (omega arith) (omega arith)) (one_of (is_two byte bytes) _ _ (sized 2 (omega arith) (omega arith))
    (one_of (is_three byte bytes) _ _ (sized 3 (omega arith) (omega arith)) (one_of (is_four byte bytes) _ _ (sized 4 (omega arith) (omega arith)) (sized 1 (omega arith) (omega arith)))))

pub size_least : (byte : ℕ) (bytes : List ℕ) → 1 ≤ (unit_at byte bytes).size
size_least byte bytes = (size_is byte bytes).least

-- a unit looks at three bytes behind its first at most
get_front : (l : List ℕ) (m k : ℕ) → k < m → get_or (take m l) k 0 ≡ get_or l k 0
get_front l zero k lt = absurd (omega arith)
get_front [] (suc m) k lt = refl
get_front (x ∷ l) (suc m) zero lt = refl
get_front (x ∷ l) (suc m) (suc k) lt = get_front l m k (omega arith)

unit_front : (byte : ℕ) (bytes : List ℕ) (m : ℕ) → 3 ≤ m → unit_at byte (take m bytes) ≡ unit_at byte bytes
unfolding unit_at
unit_front byte bytes m le =
    let a = get_front bytes m 0 (omega arith) in
    let b = get_front bytes m 1 (omega arith) in
    let c = get_front bytes m 2 (omega arith) in
    rw (a, b, c) refl

none_taken : (n : ℕ) → take {A = ℕ} n [] ≡ []
none_taken zero = refl
none_taken (suc n) = refl

drop_front : (l : List ℕ) (m k : ℕ) → k ≤ m → drop k (take m l) ≡ take (m - k) (drop k l)
drop_front l m zero le = let e : m - 0 ≡ m = omega arith in rw e refl
drop_front l zero (suc k) le = absurd (omega arith)
drop_front [] (suc m) (suc k) le = sym (none_taken (suc m - suc k))
drop_front (x ∷ l) (suc m) (suc k) le = let e : suc m - suc k ≡ m - k = omega arith in rw e (drop_front l m k (omega arith))

-- So many units of bytes are those of a front that is four times as long.
pub units_front : (n m : ℕ) (bytes : List ℕ) → 4 * n ≤ m → take n (units_of (take m bytes)) ≡ take n (units_of bytes)
units_front zero m bytes le = refl
units_front (suc n) zero bytes le = absurd (omega arith)
units_front (suc n) (suc m) [] le = refl
units_front (suc n) (suc m) (byte ∷ bytes) le =
    let u : Unit = unit_at byte bytes in
    let same : unit_at byte (take m bytes) ≡ unit_at byte bytes = unit_front byte bytes m (omega arith) in
    let size = size_is byte bytes in
    let least : 1 ≤ (unit_at byte bytes).size = size.least in
    let most : (unit_at byte bytes).size ≤ 4 = size.most in
    let rest = units_front n (m - ((unit_at byte bytes).size - 1)) (drop ((unit_at byte bytes).size - 1) bytes) (omega arith) in
    let dropped = drop_front bytes m ((unit_at byte bytes).size - 1) (omega arith) in
    let left : take (suc n) (units_of (byte ∷ take m bytes)) ≡ (unit_at byte bytes).character ∷ take n (units_of (drop ((unit_at byte bytes).size - 1) (take m bytes))) =
    ap (take (suc n)) (units_first byte (take m bytes)) ∙ ap (λ (v : Unit). v.character ∷ take n (units_of (drop (v.size - 1) (take m bytes)))) same in
    let right : take (suc n) (units_of (byte ∷ bytes)) ≡ (unit_at byte bytes).character ∷ take n (units_of (drop ((unit_at byte bytes).size - 1) bytes)) =
    ap (take (suc n)) (units_first byte bytes) in
    left ∙ ap (λ (l : List ℕ). (unit_at byte bytes).character ∷ take n (units_of l)) dropped ∙ ap (λ (l : List (Option ℕ)). (unit_at byte bytes).character ∷ l) rest ∙ sym right
