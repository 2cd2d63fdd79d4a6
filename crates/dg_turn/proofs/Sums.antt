-- What lies in front of a place.
use Rattle.std.proofs.Common.{◌≡◌, ℕ, zero, suc, ◌+◌, ◌<◌, ◌≤◌, List, [], ◌∷◌, take, Some, refl, ap, arith}
use Rattle.std.specs.List.{slice_get, sum_by}
use Rattle.std.proofs.lemmas.List.Sums.{sum_by-cons}
use Rattle.dg_base.specs.declared.program.PlaceKind.{PlaceKind}

-- What lies in front of a place, and it, is part of all.
pub before_all : (f : PlaceKind → ℕ) (kinds : List PlaceKind) (place : ℕ) (kind : PlaceKind) → slice_get kinds place ≡ Some kind → sum_by f (take place kinds) + f kind ≤ sum_by f kinds
before_all f [] place kind e = absurd (cc)
before_all f (k ∷ ks) zero kind e = let same : k ≡ kind = cc in let q = ap f same in let none : sum_by f [] ≡ 0 = refl in let sum = sum_by-cons f k ks in omega arith
before_all f (k ∷ ks) (suc place) kind e = let r = before_all f ks place kind e in let sum = sum_by-cons f k ks in let front = sum_by-cons f k (take place ks) in omega arith

-- So it is of what lies in front of a later one.
pub before_later : (f : PlaceKind → ℕ) (kinds : List PlaceKind) (place q : ℕ) (kind : PlaceKind) → slice_get kinds place ≡ Some kind → place < q → sum_by f (take place kinds) + f kind ≤ sum_by f (take q kinds)
before_later f [] place q kind e lt = absurd (cc)
before_later f (k ∷ ks) place zero kind e lt = absurd (omega arith)
before_later f (k ∷ ks) zero (suc q) kind e lt = let same : k ≡ kind = cc in let r = ap f same in let none : sum_by f [] ≡ 0 = refl in let front = sum_by-cons f k (take q ks) in omega arith
before_later f (k ∷ ks) (suc place) (suc q) kind e lt = let r = before_later f ks place q kind e (omega arith) in let one = sum_by-cons f k (take place ks) in let two = sum_by-cons f k (take q ks) in omega arith
