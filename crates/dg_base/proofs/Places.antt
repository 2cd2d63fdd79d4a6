-- Places in a table.
use Rattle.std.proofs.Common.{◌≡◌, ℕ, suc, ◌+◌, ◌-◌, ◌<◌, ◌≤◌, ◌≢◌, Bool, true, false, cond, eqb, ltb, ◌&&◌, List, [], ◌∷◌, length, get_or, drop, Some, None, refl, arith, drop-cons}
use Rattle.std.proofs.lemmas.Bool.{eqb-true, ne_eqb, eq-eqb, ltb-true}
use Rattle.std.specs.List.{list_all}
use Rattle.dg_base.specs.Typed.{extra, place_from}

pub place_here : (value : ℕ) (table : List ℕ) (i : ℕ) → i < length table → get_or table i 0 ≡ value → place_from value i (drop i table) ≡ Some i
unfolding place_from
place_here value table i lt e = rw (drop-cons table i 0 lt, eq-eqb (get_or table i 0) value e) refl

pub place_later : (value : ℕ) (table : List ℕ) (i : ℕ) → i < length table → get_or table i 0 ≢ value → place_from value i (drop i table) ≡ place_from value (i + 1) (drop (i + 1) table)
unfolding place_from
place_later value table i lt ne =
    let one : i + 1 ≡ suc i = omega arith in
    rw (drop-cons table i 0 lt, ne_eqb (get_or table i 0) value ne, one) refl

pub place_none : (value : ℕ) (table : List ℕ) (i : ℕ) → table ≡ [] → place_from value i table ≡ None
unfolding place_from
place_none value table i e = rw e refl

-- what stands at a place that was found
pub found_at : (value : ℕ) (table : List ℕ) (i k : ℕ) → place_from value i table ≡ Some k → (i ≤ k) × (get_or table (k - i) 0 ≡ value)
unfolding place_from
found_at value [] i k e = absurd cc
found_at value (x ∷ table) i k e = by_test (λ h. found_at value table (i + 1) k h) (eqb x value) refl e
  where
    by_test : (place_from value (i + 1) table ≡ Some k → (i + 1 ≤ k) × (get_or table (k - (i + 1)) 0 ≡ value)) → (t : Bool) → eqb x value ≡ t → cond t (Some i) (place_from value (i + 1) table) ≡ Some k → (i ≤ k) × (get_or (x ∷ table) (k - i) 0 ≡ value)
    by_test later true is e =
        let here : i ≡ k = cc in
        let first : k - i ≡ 0 = omega arith in
        (omega arith, rw first (eqb-true x value is))
    by_test later false is e =
        let h = later e in
        let next : k - i ≡ suc (k - (i + 1)) = omega (arith, h.0) in
        (omega (arith, h.0), rw next h.1)

pub place_within : (value : ℕ) (table : List ℕ) (i k : ℕ) → place_from value i table ≡ Some k → k < i + length table
unfolding place_from
place_within value [] i k e = absurd cc
place_within value (x ∷ table) i k e = by_test (λ h. place_within value table (i + 1) k h) (eqb x value) e
  where
    by_test : (place_from value (i + 1) table ≡ Some k → k < i + 1 + length table) → (t : Bool) → cond t (Some i) (place_from value (i + 1) table) ≡ Some k → k < i + length (x ∷ table)
    by_test later true e = let here : i ≡ k = cc in omega arith
    by_test later false e = let h = later e in omega arith

-- a value that is past all entries stands nowhere
pub place_past : (value n : ℕ) (table : List ℕ) (i : ℕ) → list_all (λ e. ltb e n) table ≡ true → n ≤ value → place_from value i table ≡ None
unfolding place_from
place_past value n [] i all le = refl
place_past value n (x ∷ table) i all le =
    let other : x ≢ value = omega (arith, ltb-true x n (front_true (ltb x n) (list_all (λ e. ltb e n) table) all)) in
    rw (ne_eqb x value other) (place_past value n table (i + 1) (rest_true (ltb x n) (list_all (λ e. ltb e n) table) all) le)
  where
    front_true : (a b : Bool) → (a && b) ≡ true → a ≡ true
    front_true true b e = refl
    front_true false b e = absurd cc

    rest_true : (a b : Bool) → (a && b) ≡ true → b ≡ true
    rest_true true b e = e
    rest_true false b e = absurd cc

pub extra_small : list_all (λ e. ltb e 65536) extra ≡ true
extra_small = refl
