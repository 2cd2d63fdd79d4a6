-- No more boxes stand inside one another than the heap has room for.
use Rattle.std.proofs.Common.{◌≡◌, ℕ, ◌/◌, ◌<◌, ◌≤◌, inl, inr, true, false, List, [], ◌++◌, map, length, Some, ap, arith, append_assoc}
use Rattle.std.specs.Prelude.{eqb}
use Rattle.std.specs.List.{IsDistinct, AllByRecursion, list_any}
use Rattle.std.proofs.lemmas.Bool.{cases_order, ne_eqb, eqb-true, or_cases}
use Rattle.std.proofs.lemmas.Map.Steps.{length-le_from_distinct_below}
use Rattle.std.proofs.lemmas.List.{length-map}
use Rattle.dg_meaning.specs.Values.{Label, Value, Node, Values, NoMore, More, pair}
use Rattle.dg_meaning.specs.Substitutions.{Substitution, walk, resolved}
use Rattle.dg_meaning.specs.inside.Substitutions.{all_resolved, IsSubstitution}
use Rattle.dg_meaning.specs.Unify.{size, sizes}
use Rattle.dg_meaning.proofs.Walks.{walked, resolved_node, size_some}
use Rattle.dg_meaning.proofs.UnifyLaws.{resolved_later}
use Rattle.dg_rt.specs.Shapes.{Shape, IsShape}
use Rattle.dg_rt.specs.inside.Depth.{Smaller, AllSmaller, Below, on_top, under}

pub smaller_trans : (S : Substitution) (u v w : Value) → Smaller S u v → Smaller S v w → Smaller S u w
smaller_trans S u v w a b made = let x = a made in let y = b made in omega arith

pub below_smaller : {sh : Shape} {S : Substitution} {ks : List ℕ} {v : Value} (u : Value) → Smaller S u v → Below sh S ks v → Below sh S ks u
below_smaller u s (on_top v) = on_top u
below_smaller {S} u s (under ks v k w lt is t b) = under ks u k w lt is (smaller_trans S u v w s t) b

pub smaller_later : (made S : Substitution) (v w : Value) → Smaller S v w → Smaller (made ++ S) v w
smaller_later made S v w s more = rw (← append_assoc more made S) (s (more ++ made))

pub below_later : {sh : Shape} {S : Substitution} {ks : List ℕ} {v : Value} (made : Substitution) → Below sh S ks v → Below sh (made ++ S) ks v
below_later made (on_top v) = on_top v
below_later {S} made (under ks v k w lt is t b) = under ks v k w lt is (smaller_later made S v w t) (below_later made b)

-- a value and what it is when it is walked are of one size
pub same_size : (S : Substitution) → IsSubstitution S → (v : Value) (made : Substitution) → size (resolved (made ++ S) (walk S v)) ≡ size (resolved (made ++ S) v)
same_size S s v made = ap size (resolved_later made S (walk S v) v (walked S s v).same)

pub below_walk : {sh : Shape} (S : Substitution) → IsSubstitution S → {ks : List ℕ} {v : Value} → Below sh S ks v → Below sh S ks (walk S v)
below_walk S s (on_top v) = on_top (walk S v)
below_walk S s (under ks v k w lt is t b) = under ks (walk S v) k w lt is (λ made. let a = same_size S s v made in let r = t made in omega arith) b

pub head_smaller : (S : Substitution) (h t : Value) → Smaller S h (pair h t)
head_smaller S h t made = rw (resolved_node (made ++ S) _ (More h (More t NoMore))) (omega arith)

pub tail_smaller : (S : Substitution) (h t : Value) → Smaller S t (pair h t)
tail_smaller S h t made = rw (resolved_node (made ++ S) _ (More h (More t NoMore))) (omega (arith, size_some (resolved (made ++ S) h)))

-- the parts of a value are smaller
within : (S : Substitution) (w : Value) (vs : Values) → ((made : Substitution) → sizes (all_resolved (made ++ S) vs) < size (resolved (made ++ S) w)) → AllSmaller S vs w
within S w NoMore h = tt
within S w (More v vs) h = ((λ made. let k = h made in omega arith), within S w vs (λ made. let k = h made in omega (arith, size_some (resolved (made ++ S) v))))

pub parts_smaller : (S : Substitution) (f : Label) (vs : Values) → AllSmaller S vs (Node f vs)
parts_smaller S f vs = within S (Node f vs) vs (λ made. rw (resolved_node (made ++ S) f vs) (omega arith))

pub all_smaller_later : (made S : Substitution) (vs : Values) (w : Value) → AllSmaller S vs w → AllSmaller (made ++ S) vs w
all_smaller_later made S NoMore w h = tt
all_smaller_later made S (More v vs) w h = (smaller_later made S v w h.0, all_smaller_later made S vs w h.1)

-- ---- the places differ

abbrev third : ℕ → ℕ
third k = k / 3

abbrev Apart : ℕ → List ℕ → Type 0
Apart q ks = AllByRecursion (λ y. eqb q y ≡ false) (map third ks)

boxes_apart : {sh : Shape} → IsShape sh → (j k : ℕ) (v w : Value) → sh.box j ≡ Some v → sh.box k ≡ Some w → third j ≡ third k → v ≡ w
boxes_apart {sh} is j k v w ej ek e =
    elim (cases_order j k) [
      | inl same ↦ let l = ap (λ (i : ℕ). sh.box i) same in cc
      | inr (inl lt) ↦ let o = is.apart j k v w ej ek lt in absurd (omega arith)
      | inr (inr gt) ↦ let o = is.apart k j w v ek ej gt in absurd (omega arith)
    ]

one_apart : {sh : Shape} → IsShape sh → (S : Substitution) (k j : ℕ) (v w : Value) → sh.box k ≡ Some v → sh.box j ≡ Some w → Smaller S v w → eqb (third k) (third j) ≡ false
one_apart is S k j v w ek ej t = ne_eqb (third k) (third j) (λ (same : third k ≡ third j). (let s : v ≡ w = boxes_apart is k j v w ek ej same in let r : size (resolved S v) < size (resolved S w) = t [] in let x = ap (λ (u : Value). size (resolved S u)) s in omega arith))

apart_from : {sh : Shape} → IsShape sh → (S : Substitution) (k : ℕ) (v : Value) → sh.box k ≡ Some v → {ks : List ℕ} (u : Value) → Smaller S v u → Below sh S ks u → Apart (third k) ks
apart_from is S k v e u less (on_top u') = tt
apart_from is S k v e u less (under ks u' j w lt ej t b) =
    let through = smaller_trans S v u w less t in
    (one_apart is S k j v w e ej through, apart_from is S k v e w through b)

apart : {sh : Shape} → IsShape sh → (S : Substitution) (k : ℕ) (v : Value) → sh.box k ≡ Some v → {ks : List ℕ} → Below sh S ks v → Apart (third k) ks
apart is S k v e (on_top v') = tt
apart is S k v e (under ks v' j w lt ej t b) = (one_apart is S k j v w e ej t, apart_from is S k v e w t b)

distinct : {sh : Shape} → IsShape sh → (S : Substitution) {ks : List ℕ} {v : Value} → Below sh S ks v → IsDistinct eqb (map third ks)
unfolding IsDistinct
distinct is S (on_top v) = tt
distinct is S (under ks v k w lt e t b) = (apart is S k w e b, distinct is S b)

third_in : {sh : Shape} (S : Substitution) {ks : List ℕ} {v : Value} → Below sh S ks v → (q : ℕ) → list_any (eqb q) (map third ks) ≡ true → q < 3333
third_in S (on_top v) q h = absurd (cc h)
third_in S (under ks v k w lt e t b) q h =
    elim (or_cases (eqb q (third k)) (list_any (eqb q) (map third ks)) h) [
      | inl here ↦ let same = eqb-true q (third k) here in omega arith
      | inr there ↦ third_in S b q there
    ]

pub levels : {sh : Shape} → IsShape sh → (S : Substitution) {ks : List ℕ} {v : Value} → Below sh S ks v → length ks ≤ 3333
levels is S {ks} b = let l = length-le_from_distinct_below (map third ks) 3333 (distinct is S b) (third_in S b) in omega (arith, length-map ks third)
