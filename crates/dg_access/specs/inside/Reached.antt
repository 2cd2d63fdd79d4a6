-- Which places are reached from others, where each leads to those in its row. The proofs alone rest on it.
use Rattle.std.specs.Prelude.{◌≡◌, ℕ, zero, suc, ◌<◌, ◌&&◌, List, [], ◌∷◌, ◌++◌, Bool, true, false, not, Vec, map, set, length, nat_eq, nat_lt, if◌then◌else◌}
use Rattle.std.specs.Global.{Global}
use Rattle.std.specs.List.{list_any}
use Rattle.dg_access.specs.declared.reached.Reached.{Reached}

-- Whether a place is among these.
abbrev pub is_set : List Bool → ℕ → Bool
is_set [] k = false
is_set (x ∷ xs) zero = x
is_set (x ∷ xs) (suc k) = is_set xs k

abbrev pub is_in : ℕ → List ℕ → Bool
is_in k xs = list_any (nat_eq k) xs

abbrev pub row_at : List (List ℕ) → ℕ → List ℕ
row_at [] k = []
row_at (row ∷ rows) zero = row
row_at (row ∷ rows) (suc k) = row_at rows k

abbrev pub rows_of : List (Vec ℕ Global) → List (List ℕ)
rows_of rows = map (λ (row : Vec ℕ Global). row.items) rows

-- Of each place whether it was reached, and those that were.
pub record Places : Type 0 where
  pub seen : List Bool
  pub found : List ℕ

abbrev pub reached_view : Reached → Places
reached_view r = record { seen = r.seen.items; found = r.found.items }

-- Whether there is such a place that wasn't reached.
abbrev pub is_new : ℕ → List Bool → Bool
is_new k seen = nat_lt k (length seen) && not (is_set seen k)

-- The places with this one.
abbrev pub noted : ℕ → Places → Places
noted k r = if is_new k r.seen then record { seen = set r.seen k true; found = r.found ++ k ∷ [] } else r

abbrev pub all_noted : List ℕ → Places → Places
all_noted [] r = r
all_noted (k ∷ ks) r = all_noted ks (noted k r)

-- These lead to a place.
pub data Leads (rows : List (List ℕ)) (start : List ℕ) : ℕ → Type 0 where
  begins : (k : ℕ) → is_in k start ≡ true → Leads rows start k
  goes : (k to : ℕ) → Leads rows start k → is_in to (row_at rows k) ≡ true → Leads rows start to

-- These are the places to which others lead.
pub record IsReached (rows : List (List ℕ)) (start : List ℕ) (seen : List Bool) : Type 0 where
  pub led : (k : ℕ) → is_set seen k ≡ true → Leads rows start k
  pub begun : (k : ℕ) → k < length rows → is_in k start ≡ true → is_set seen k ≡ true
  pub gone : (k to : ℕ) → is_set seen k ≡ true → to < length rows → is_in to (row_at rows k) ≡ true → is_set seen to ≡ true
