-- Unification finds the most general way to make two values equal.
use Rattle.std.proofs.Common.{◌≡◌, ℕ, zero, suc, ◌+◌, ◌≤◌, List, [], ◌∷◌, ◌++◌, Bool, true, false, refl, sym, ap, ◌∙◌, arith, subst, Option, Some, None}
use Rattle.std.specs.Prelude.{eqb, nat_lt, ◌||◌, if◌then◌else◌}
use Rattle.std.proofs.lemmas.Bool.{cond_both, eqb-true, eq-eqb}
use Rattle.dg_meaning.specs.Values.{Label, Num, Word, Unknown, Object, Nil, Pair, Closure, Value, Var, Node, Values, NoMore, More}
use Rattle.dg_meaning.specs.Substitutions.{Substitution, at_var, walk, replaced, all_replaced, resolved, contains, any_contains}
use Rattle.dg_meaning.specs.inside.Substitutions.{all_resolved}
use Rattle.dg_meaning.specs.Unify.{same_spelling, same_label, Equations, as_many, side_by_side, Turn, Goes, Binds, Clashes, binds, turn_of, turn, cost, Unified, charged, after_turn, turns, size, sizes, enough}
use Rattle.dg_meaning.specs.inside.Unifiers.{Assignment, under, all_under, Obeys, UnifyingExtends, UnifyingMakesEqual, UnifyingIsMostGeneral}
use Rattle.dg_meaning.proofs.Walks.{resolved_node}
use Rattle.dg_meaning.proofs.Solving.{solve_ends, solve_extends}
use Rattle.dg_meaning.proofs.UnifyLaws.{solve_equal}

-- ## An assignment that obeys a substitution

under_at : (σ : Assignment) (p : ℕ × Value) (u w : Value) → σ p.0 ≡ under σ u → under σ (at_var p.0 u w) ≡ under σ w
under_at σ p u (Node f vs) h = refl
under_at σ p u (Var y) h = cond_both (eqb y p.0) u (Var y) (λ t. under σ t ≡ σ y) (λ e. sym h ∙ ap σ (sym (eqb-true y p.0 e))) (λ e. refl)

under_walk : (σ : Assignment) (S : Substitution) (v : Value) → Obeys σ S → under σ (walk S v) ≡ under σ v
under_walk σ [] v h = refl
under_walk σ (p ∷ S) v h = under_at σ p (walk S p.1) (walk S v) (h.0 ∙ sym (under_walk σ S p.1 h.1)) ∙ under_walk σ S v h.1

mutual
  under_replaced : (σ : Assignment) (x : ℕ) (u t : Value) → σ x ≡ under σ u → under σ (replaced x u t) ≡ under σ t
  under_replaced σ x u (Var y) h = cond_both (eqb y x) u (Var y) (λ t. under σ t ≡ σ y) (λ e. sym h ∙ ap σ (sym (eqb-true y x e))) (λ e. refl)
  under_replaced σ x u (Node f vs) h = ap (Node f) (all_under_replaced σ x u vs h)

  all_under_replaced : (σ : Assignment) (x : ℕ) (u : Value) (vs : Values) → σ x ≡ under σ u → all_under σ (all_replaced x u vs) ≡ all_under σ vs
  all_under_replaced σ x u NoMore h = refl
  all_under_replaced σ x u (More v vs) h =
      let a = under_replaced σ x u v h in
      let b = all_under_replaced σ x u vs h in
      cc

under_resolved : (σ : Assignment) (S : Substitution) (v : Value) → Obeys σ S → under σ (resolved S v) ≡ under σ v
under_resolved σ [] v h = refl
under_resolved σ (p ∷ S) v h = under_replaced σ p.0 (resolved S p.1) (resolved S v) (h.0 ∙ sym (under_resolved σ S p.1 h.1)) ∙ under_resolved σ S v h.1

-- ## A value that contains a variable is at least as large as what that stands for

in_either : (k m n : ℕ) (a b : Bool) → (a ≡ true → k ≤ m) → (b ≡ true → k ≤ n) → (a || b) ≡ true → k ≤ m + n
in_either k m n true b left right h = omega (arith, left refl)
in_either k m n false b left right h = omega (arith, right h)

mutual
  contained : (σ : Assignment) (x : ℕ) (t : Value) → contains x t ≡ true → size (σ x) ≤ size (under σ t)
  contained σ x (Var y) h = omega (arith, ap (λ k. size (σ k)) (eqb-true y x h))
  contained σ x (Node f vs) h = omega (arith, any_contained σ x vs h)

  any_contained : (σ : Assignment) (x : ℕ) (vs : Values) → any_contains x vs ≡ true → size (σ x) ≤ sizes (all_under σ vs)
  any_contained σ x NoMore h = absurd (cc h)
  any_contained σ x (More v vs) h = in_either (size (σ x)) (size (under σ v)) (sizes (all_under σ vs)) (contains x v) (any_contains x vs) (contained σ x v) (any_contained σ x vs) h

not_inside : (σ : Assignment) (S : Substitution) (x : ℕ) (f : Label) (vs : Values) → Obeys σ S → σ x ≡ under σ (Node f vs) → contains x (resolved S (Node f vs)) ≡ true → ⊥
not_inside σ S x f vs obeys is h =
    let e : under σ (Node f (all_resolved S vs)) ≡ σ x = ap (under σ) (sym (resolved_node S f vs)) ∙ under_resolved σ S (Node f vs) obeys ∙ sym is in
    let inside : any_contains x (all_resolved S vs) ≡ true = sym (ap (contains x) (resolved_node S f vs)) ∙ h in
    omega (arith, ap size e, any_contained σ x (all_resolved S vs) inside)

-- ## One turn

abbrev EqualIn : Assignment → Equations → Type 0
EqualIn σ [] = Unit {0}
EqualIn σ (e ∷ es) = (under σ e.0 ≡ under σ e.1) × EqualIn σ es

abbrev ObeysTurn : Assignment → Turn → Type 0
ObeysTurn σ (Goes parts) = EqualIn σ parts
ObeysTurn σ (Binds x v) = σ x ≡ under σ v
ObeysTurn σ Clashes = ⊥

spelling_refl : (xs : List ℕ) → same_spelling xs xs ≡ true
spelling_refl [] = refl
spelling_refl (x ∷ xs) = rw (eq-eqb x x refl) (spelling_refl xs)

pub label_refl : (f : Label) → same_label f f ≡ true
label_refl (Num n) = eq-eqb n n refl
label_refl (Word n) = eq-eqb n n refl
label_refl (Unknown n) = spelling_refl n
label_refl (Object n) = eq-eqb n n refl
label_refl Nil = refl
label_refl Pair = refl
label_refl (Closure n) = eq-eqb n n refl

as_many_under : (σ : Assignment) (vs us : Values) → all_under σ vs ≡ all_under σ us → as_many vs us ≡ true
as_many_under σ NoMore NoMore h = refl
as_many_under σ NoMore (More u us) h = absurd (cc h)
as_many_under σ (More v vs) NoMore h = absurd (cc h)
as_many_under σ (More v vs) (More u us) h = as_many_under σ vs us cc

parts_equal : (σ : Assignment) (vs us : Values) → all_under σ vs ≡ all_under σ us → EqualIn σ (side_by_side vs us)
parts_equal σ NoMore us h = tt
parts_equal σ (More v vs) NoMore h = tt
parts_equal σ (More v vs) (More u us) h = (cc, parts_equal σ vs us cc)

binds_obeys : (σ : Assignment) (S : Substitution) (x : ℕ) (f : Label) (vs : Values) → Obeys σ S → σ x ≡ under σ (Node f vs) → ObeysTurn σ (binds S x (Node f vs))
binds_obeys σ S x f vs obeys is =
    cond_both (contains x (resolved S (Node f vs))) Clashes (Binds x (Node f vs)) (ObeysTurn σ) (λ e. not_inside σ S x f vs obeys is e) (λ e. is)

turn_obeys : (σ : Assignment) (S : Substitution) (v u : Value) → Obeys σ S → under σ v ≡ under σ u → ObeysTurn σ (turn_of S v u)
turn_obeys σ S (Var x) (Var y) obeys h =
    cond_both (eqb x y) (Goes []) (if nat_lt x y then Binds y (Var x) else Binds x (Var y)) (ObeysTurn σ) (λ e. tt)
    (λ e. cond_both (nat_lt x y) (Binds y (Var x)) (Binds x (Var y)) (ObeysTurn σ) (λ lt. sym h) (λ ge. h))
turn_obeys σ S (Var x) (Node g us) obeys h = binds_obeys σ S x g us obeys h
turn_obeys σ S (Node f vs) (Var y) obeys h = binds_obeys σ S y f vs obeys (sym h)
turn_obeys σ S (Node f vs) (Node g us) obeys h =
    let labels : f ≡ g = cc in
    let parts : all_under σ vs ≡ all_under σ us = cc in
    let same : same_label f g ≡ true = subst (λ k. same_label f k ≡ true) labels (label_refl f) in
    rw (same, as_many_under σ vs us parts) (parts_equal σ vs us parts)

-- ## All turns

equal_append : (σ : Assignment) (xs ys : Equations) → EqualIn σ xs → EqualIn σ ys → EqualIn σ (xs ++ ys)
equal_append σ [] ys hx hy = hy
equal_append σ (x ∷ xs) ys hx hy = (hx.0, equal_append σ xs ys hx.1 hy)

abbrev ObeysEnd : Assignment → Option Unified → Type 0
ObeysEnd σ None = Unit {0}
ObeysEnd σ (Some u) = (u.agrees ≡ true) × Obeys σ u.subst

charged_obeys : (σ : Assignment) (c : ℕ) (r : Option Unified) → ObeysEnd σ r → ObeysEnd σ (charged c r)
charged_obeys σ c None h = h
charged_obeys σ c (Some u) h = h

after_obeys : (σ : Assignment) (go : Substitution → Equations → Option Unified) → ((S : Substitution) (es : Equations) → Obeys σ S → EqualIn σ es → ObeysEnd σ (go S es)) → (S : Substitution) (es : Equations) (t : Turn) → Obeys σ S → EqualIn σ es → ObeysTurn σ t → ObeysEnd σ (after_turn go S es t)
after_obeys σ go ih S es (Goes parts) obeys equal h = ih S (parts ++ es) obeys (equal_append σ parts es h equal)
after_obeys σ go ih S es (Binds x v) obeys equal h = ih ((x, v) ∷ S) es (h, obeys) equal
after_obeys σ go ih S es Clashes obeys equal h = absurd h

turns_obey : (σ : Assignment) (n : ℕ) (S : Substitution) (es : Equations) → Obeys σ S → EqualIn σ es → ObeysEnd σ (turns n S es)
turns_obey σ zero S es obeys equal = tt
turns_obey σ (suc n) S [] obeys equal = (refl, obeys)
turns_obey σ (suc n) S (e ∷ es) obeys equal =
    let walked : under σ (walk S e.0) ≡ under σ (walk S e.1) = under_walk σ S e.0 obeys ∙ equal.0 ∙ sym (under_walk σ S e.1 obeys) in
    charged_obeys σ (cost S e.0 e.1) (after_turn (turns n) S es (turn S e.0 e.1))
    (after_obeys σ (turns n) (turns_obey σ n) S es (turn S e.0 e.1) obeys equal.1 (turn_obeys σ S (walk S e.0) (walk S e.1) obeys walked))

pub most_general : UnifyingIsMostGeneral
most_general S a b s σ obeys equal = subst (ObeysEnd σ) (solve_ends S ((a, b) ∷ []) s) (turns_obey σ (enough S ((a, b) ∷ [])) S ((a, b) ∷ []) obeys (equal, tt))

pub extends : UnifyingExtends
extends S a b s = solve_extends S ((a, b) ∷ []) s

pub makes_equal : UnifyingMakesEqual
makes_equal S a b s agrees = (solve_equal S ((a, b) ∷ []) s agrees).0
