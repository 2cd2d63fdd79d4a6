-- What Refs of a store stand for, before and behind a call, and which variable is which.
use Rattle.std.proofs.Common.{◌≡◌, ℕ, ◌<◌, refl, sym, ap, ◌∙◌, arith, subst, Option, Some, None, inl, inr, List, [], ◌∷◌, map}
use Rattle.std.specs.List.{All}
use Rattle.std.proofs.lemmas.List.Elements.{All-head, All-tail}
use Rattle.std.specs.Prelude.{eqb, nat_lt}
use Rattle.std.proofs.lemmas.Bool.{lt-ltb, le-ltb, cases_lt, cases_eq, eq-eqb, ne_eqb}
use Rattle.dg_meaning.specs.Values.{Value, Var}
use Rattle.dg_meaning.specs.Substitutions.{Substitution, walk, resolved, contains}
use Rattle.dg_meaning.specs.inside.Substitutions.{IsSubstitution}
use Rattle.dg_meaning.proofs.Walks.{resolved_unbound, walked}
use Rattle.dg_unify.specs.Store.{Store, or_nil, IsTold, told, Holds, Kept, ShowsVar}
use Rattle.dg_unify.specs.declared.bindings.Ref.{Ref}

pub told_is : (s : Store) (r : Ref) (v : Value) → s.value r ≡ Some v → told s r ≡ v
told_is s r v h = ap or_nil h

pub holds_some : (s : Store) (r : Ref) (v : Value) → s.value r ≡ Some v → Holds s r
holds_some s r v h = subst IsTold (sym h) tt

option_told : (o : Option Value) → IsTold o → o ≡ Some (or_nil o)
option_told None h = absurd h
option_told (Some v) h = refl

pub holds_told : (s : Store) (r : Ref) → Holds s r → s.value r ≡ Some (told s r)
holds_told s r h = option_told (s.value r) h

-- ## What a call keeps

pub kept_same : (s : Store) → Kept s s
kept_same s = record { values = λ r v h. h; places = omega arith; words = λ at w h. h; heap_limit = refl; trail_limit = refl; grows = refl }

pub kept_on : (s t u : Store) → Kept s t → Kept t u → Kept s u
kept_on s t u k l = record {
  values = λ r v h. l.values r v (k.values r v h);
  places = omega (arith, k.places, l.places);
  words = λ at w h. l.words at w (k.words at w h);
  heap_limit = l.heap_limit ∙ k.heap_limit;
  trail_limit = l.trail_limit ∙ k.trail_limit;
  grows = l.grows ∙ k.grows;
}

pub kept_some : (old new : Store) (r : Ref) (v : Value) → Kept old new → old.value r ≡ Some v → Holds new r
kept_some old new r v k h = holds_some new r v (k.values r v h)

pub kept_holds : (old new : Store) (r : Ref) → Kept old new → Holds old r → Holds new r
kept_holds old new r k h = kept_some old new r (told old r) k (holds_told old r h)

pub kept_told : (old new : Store) (r : Ref) → Kept old new → Holds old r → told new r ≡ told old r
kept_told old new r k h = told_is new r (told old r) (k.values r (told old r) (holds_told old r h))

pub all_hold : (s t : Store) (rs : List Ref) → Kept s t → All (Holds s) rs → All (Holds t) rs
all_hold s t rs k h i d lt = kept_holds s t _ k (h i d lt)

pub all_told : (s t : Store) (rs : List Ref) → Kept s t → All (Holds s) rs → map (told t) rs ≡ map (told s) rs
all_told s t [] k h = refl
all_told s t (r ∷ rs) k h = ap (λ v. v ∷ map (told t) rs) (kept_told s t r k (All-head (Holds s) r rs h)) ∙ ap (λ vs. told s r ∷ vs) (all_told s t rs k (All-tail (Holds s) r rs h))

-- ## Variables

abbrev pub Younger : Store → Type 0
Younger s = (r q : Ref) (m n : ℕ) → s.value r ≡ Some (Var m) → s.value q ≡ Some (Var n) → r.0 < q.0 → m < n

-- two Refs of variables are the same where the variables are
pub same_place : (s : Store) → Younger s → (r q : Ref) (m n : ℕ) → s.value r ≡ Some (Var m) → s.value q ≡ Some (Var n) → eqb r.0 q.0 ≡ eqb m n
same_place s y r q m n hr hq =
    elim (cases_lt r.0 q.0) [
      | inl lt ↦ let k : m < n = y r q m n hr hq lt in ne_eqb r.0 q.0 (λ e. omega arith) ∙ sym (ne_eqb m n (λ e. omega arith))
      | inr ge ↦
          elim (cases_lt q.0 r.0) [
            | inl lt ↦ let k : n < m = y q r n m hq hr lt in ne_eqb r.0 q.0 (λ e. omega arith) ∙ sym (ne_eqb m n (λ e. omega arith))
            | inr le ↦
                let same : r.0 ≡ q.0 = omega arith in
                let is : r ≡ q = ap (λ (k : ℕ). let x : Ref = record { 0 = k } in x) same in
                let there : s.value r ≡ Some (Var n) = rw is hq in
                let k : m ≡ n = cc in
                eq-eqb r.0 q.0 same ∙ sym (eq-eqb m n k)
          ]
    ]

pub younger_place : (s : Store) → Younger s → (r q : Ref) (m n : ℕ) → s.value r ≡ Some (Var m) → s.value q ≡ Some (Var n) → nat_lt r.0 q.0 ≡ nat_lt m n
younger_place s y r q m n hr hq =
    elim (cases_lt r.0 q.0) [
      | inl lt ↦ let k : m < n = y r q m n hr hq lt in lt-ltb r.0 q.0 lt ∙ sym (lt-ltb m n k)
      | inr ge ↦
          elim (cases_lt q.0 r.0) [
            | inl lt ↦ let k : n < m = y q r n m hq hr lt in le-ltb r.0 q.0 ge ∙ sym (le-ltb m n (omega arith))
            | inr le ↦
                let same : r.0 ≡ q.0 = omega arith in
                let is : r ≡ q = ap (λ (k : ℕ). let x : Ref = record { 0 = k } in x) same in
                let there : s.value r ≡ Some (Var n) = rw is hq in
                let k : m ≡ n = cc in
                le-ltb r.0 q.0 ge ∙ sym (le-ltb m n (omega arith))
          ]
    ]

pub contains_var : (S : Substitution) → IsSubstitution S → (v : Value) (y n : ℕ) → walk S v ≡ Var y → contains n (resolved S v) ≡ eqb y n
contains_var S s v y n is =
    let w = walked S s v in
    let at : resolved S v ≡ Var y = sym w.same ∙ ap (resolved S) is ∙ resolved_unbound S y (w.free y is) in
    ap (contains n) at

eqb_turned : (x y : ℕ) → eqb x y ≡ eqb y x
eqb_turned x y =
    elim (cases_eq x y) [
      | inl e ↦ eq-eqb x y e ∙ sym (eq-eqb y x (sym e))
      | inr ne ↦ ne_eqb x y ne ∙ sym (ne_eqb y x (λ e. ne (sym e)))
    ]

abbrev pub walked_to : Store → Ref → Value
walked_to s r = walk s.state.subst (told s r)

pub found_var : (s : Store) → IsSubstitution s.state.subst → Younger s → (x at y : Ref) (n : ℕ) → s.value x ≡ Some (Var n) → ShowsVar s (walked_to s at) y → eqb x.0 y.0 ≡ contains n (resolved s.state.subst (told s at))
found_var s sound young x at y n hx shows =
    same_place s young x y n shows.number hx shows.value ∙ eqb_turned n shows.number ∙ sym (contains_var s.state.subst sound (told s at) shows.number n shows.is)
