-- How many may wait: the values inside each other that a walk goes into have fewer and fewer nodes.
use Rattle.std.proofs.Common.{◌≡◌, ℕ, zero, suc, ◌+◌, ◌<◌, ◌≤◌, List, [], ◌∷◌, Bool, true, false, refl, sym, ap, ◌∙◌, arith, subst, inl, inr, length, Some}
use Rattle.std.specs.Prelude.{nat_le, if◌then◌else◌}
use Rattle.std.proofs.lemmas.Bool.{cases_eq, leb-true, le-leb, lt-leb}
use Rattle.dg_meaning.specs.Values.{Value, Var, Node, NoMore, More}
use Rattle.dg_meaning.specs.Substitutions.{Substitution, resolved}
use Rattle.dg_meaning.specs.Unify.{size}
use Rattle.dg_meaning.proofs.Walks.{resolved_node, size_some}
use Rattle.dg_unify.specs.Store.{Store, told, Holds, is_single}
use Rattle.dg_unify.specs.Waits.{size_at, places_to, HasRoom}
use Rattle.dg_unify.specs.declared.bindings.Ref.{Ref}
use Rattle.dg_unify.specs.declared.parts.Wait.{Wait}
use Rattle.dg_unify.proofs.StoreLemmas.{holds_told}

-- a variable, and a value with parts, stands at a place
abbrev pub Placed : Store → Type 0
Placed s = (r : Ref) (v : Value) → s.value r ≡ Some v → is_single v ≡ false → r.0 < s.places

abbrev place : ℕ → Ref
place k = record { 0 = k }

-- ## Places with few nodes

abbrev one_if : Bool → ℕ
one_if b = if b then 1 else 0

count_le : (a b : Bool) → (a ≡ true → b ≡ true) → (if a then 1 else 0) ≤ (if b then 1 else 0)
count_le true true h = omega arith
count_le true false h = absurd (cc (h refl))
count_le false true h = omega arith
count_le false false h = omega arith

places_more : (s : Store) (m n k : ℕ) → m ≤ n → places_to s m k ≤ places_to s n k
places_more s m n zero le = omega arith
places_more s m n (suc k) le =
    let x = size_at s (place k) in
    omega (arith, places_more s m n k le, count_le (nat_le x m) (nat_le x n) (λ e. le-leb x n (omega (arith, leb-true x m e, le))))

places_all : (s : Store) (n k : ℕ) → places_to s n k ≤ k
places_all s n zero = omega arith
places_all s n (suc k) = let x = size_at s (place k) in omega (arith, places_all s n k, count_le (nat_le x n) true (λ e. refl))

-- the place k itself has so many nodes
places_here : (s : Store) (m k : ℕ) → m < size_at s (place k) → places_to s m (suc k) + 1 ≤ places_to s (size_at s (place k)) (suc k)
places_here s m k lt =
    let x = size_at s (place k) in
    let a : one_if (nat_le x m) ≡ one_if false = ap one_if (lt-leb x m lt) in
    let b : one_if (nat_le x x) ≡ one_if true = ap one_if (le-leb x x (omega arith)) in
    omega (arith, a, b, places_more s m x k (omega (arith, lt)))

places_strict : (s : Store) (m i k : ℕ) → i < k → m < size_at s (place i) → places_to s m k + 1 ≤ places_to s (size_at s (place i)) k
places_strict s m i zero lt h = absurd (omega arith)
places_strict s m i (suc k) lt h =
    elim (cases_eq i k) [
      | inl e ↦ subst (λ j. places_to s m (suc k) + 1 ≤ places_to s (size_at s (place j)) (suc k)) (sym e) (places_here s m k (subst (λ j. m < size_at s (place j)) e h))
      | inr ne ↦
          let x = size_at s (place k) in
          let n = size_at s (place i) in
          omega (arith, places_strict s m i k (omega (arith, lt, ne)) h, count_le (nat_le x m) (nat_le x n) (λ e. le-leb x n (omega (arith, leb-true x m e, h))))
    ]

-- ## Room

single_size : (S : Substitution) (v : Value) → is_single v ≡ true → size (resolved S v) ≡ 1
single_size S (Var y) h = absurd (cc h)
single_size S (Node f NoMore) h = ap size (resolved_node S f NoMore) ∙ omega arith
single_size S (Node f (More v vs)) h = absurd (cc h)

bool_is : (b : Bool) → (b ≡ true → ⊥) → b ≡ false
bool_is true h = absurd (h refl)
bool_is false h = refl

-- a value in which another stands is at a place
has_place : (s : Store) → Placed s → (r : Ref) → Holds s r → 1 < size_at s r → r.0 < s.places
has_place s placed r h lt =
    placed r (told s r) (holds_told s r h) (bool_is (is_single (told s r)) (λ e. let k = single_size s.state.subst (told s r) e in absurd (omega (arith, k, lt))))

pub room_smaller : (s : Store) (n : ℕ) (q r : Ref) → size_at s q ≤ size_at s r → HasRoom s n r → HasRoom s n q
room_smaller s n q r le h = omega (arith, h, places_more s (size_at s q) (size_at s r) s.places le)

pub room_for_all : (s : Store) (r : Ref) → HasRoom s 0 r
room_for_all s r = omega (arith, places_all s (size_at s r) s.places)

-- one more may wait behind a value inside another
pub room_more : (s : Store) → Placed s → (n : ℕ) (r : Ref) → Holds s r → (m : ℕ) → 0 < m → m < size_at s r → HasRoom s n r → n + 1 + places_to s m s.places ≤ s.places
room_more s placed n r h m some lt room =
    omega (arith, room, places_strict s m r.0 s.places (has_place s placed r h (omega (arith, some, lt))) lt)

-- ## What waits

-- the newest value that is gone into
abbrev pub newest_in : (Wait → Ref) → Ref → List Wait → Ref
newest_in at root [] = root
newest_in at root (w ∷ ws) = at w

-- each is smaller than the one into which it was gone into, and so are the parts behind it
abbrev pub AreInside : Store → (Wait → Ref) → (Wait → ℕ) → Ref → List Wait → Type 0
AreInside s at behind root [] = Unit {0}
AreInside s at behind root (w ∷ ws) = Holds s (at w) × (size_at s (at w) < size_at s (newest_in at root ws)) × (behind w < size_at s (newest_in at root ws)) × AreInside s at behind root ws

pub newest_holds : (s : Store) (at : Wait → Ref) (behind : Wait → ℕ) (root : Ref) (ws : List Wait) → Holds s root → AreInside s at behind root ws → Holds s (newest_in at root ws)
newest_holds s at behind root [] h k = h
newest_holds s at behind root (w ∷ ws) h k = k.0

pub room_inside : (s : Store) → Placed s → (at : Wait → Ref) (behind : Wait → ℕ) (root : Ref) (n : ℕ) (ws : List Wait) → Holds s root → HasRoom s n root → AreInside s at behind root ws → HasRoom s (length ws + n) (newest_in at root ws)
room_inside s placed at behind root n [] h room k = omega (arith, room)
room_inside s placed at behind root n (w ∷ ws) h room k =
    omega (arith, room_more s placed (length ws + n) (newest_in at root ws) (newest_holds s at behind root ws h k.3) (size_at s (at w)) (size_some _) k.1 (room_inside s placed at behind root n ws h room k.3))

-- one more may wait where there is something to go into
pub room_left : (s : Store) → Placed s → (at : Wait → Ref) (behind : Wait → ℕ) (root : Ref) (n : ℕ) (ws : List Wait) (m : ℕ) → Holds s root → HasRoom s n root → AreInside s at behind root ws → 0 < m → m < size_at s (newest_in at root ws) → length ws + n < s.places
room_left s placed at behind root n ws m h room k some lt =
    omega (arith, room_more s placed (length ws + n) (newest_in at root ws) (newest_holds s at behind root ws h k) m some lt (room_inside s placed at behind root n ws h room k))
