-- The parts of values, one after another.
use Rattle.std.proofs.Common.{◌≡◌, ℕ, zero, suc, ◌+◌, ◌<◌, ◌≤◌, refl, sym, ap, ◌∙◌, arith, subst, Option, Some, None}
use Rattle.dg_meaning.specs.Values.{Label, Closure, Value, Node, Values, NoMore, More}
use Rattle.dg_unify.specs.Store.{Store, Kept, or_nil, IsTold, told, count_of, part_at, IsPart, IsClosureAt, ShowsVar, Shows}
use Rattle.dg_unify.specs.Parts.{parts_in, dropped, values_of, AreIn, IsClosure, IsRest, IsSplit, IsVariable}
use Rattle.dg_unify.specs.declared.bindings.Ref.{Ref}
use Rattle.dg_unify.specs.declared.bindings.View.{View}
use Rattle.dg_unify.specs.declared.bindings.View.TheVariants as view
use Rattle.dg_unify.specs.declared.parts.Parts.{Parts}
use Rattle.dg_unify.specs.declared.parts.Parts.TheVariants as form
use Rattle.dg_unify.proofs.StoreLemmas.{told_is, holds_some, kept_holds, kept_told}

-- ## Captured values

closure_parts : (s : Store) (c : Ref) (place : ℕ) (ps : Values) → IsClosureAt s c place ps → parts_in (told s c) ≡ ps
closure_parts s c place ps h = ap (λ o. parts_in (or_nil o)) h.value

dropped_none : (n : ℕ) (vs : Values) → part_at n vs ≡ None → dropped n vs ≡ NoMore
dropped_none zero NoMore h = refl
dropped_none (suc n) NoMore h = refl
dropped_none zero (More v vs) h = absurd (cc h)
dropped_none (suc n) (More v vs) h = dropped_none n vs h

dropped_some : (n : ℕ) (vs : Values) (v : Value) → part_at n vs ≡ Some v → dropped n vs ≡ More v (dropped (suc n) vs)
dropped_some n NoMore v h = absurd (cc h)
dropped_some zero (More u vs) v h = let e : u ≡ v = cc in ap (λ w. More w vs) e
dropped_some (suc n) (More u vs) v h = dropped_some n vs v h

below_count : (n : ℕ) (vs : Values) (v : Value) → part_at n vs ≡ Some v → n < count_of vs
below_count n NoMore v h = absurd (cc h)
below_count zero (More u vs) v h = omega arith
below_count (suc n) (More u vs) v h = omega (arith, below_count n vs v h)

pub rest_none : (s : Store) (c : Ref) (n place : ℕ) (ps : Values) → IsClosureAt s c place ps → part_at n ps ≡ None → IsRest s c n form.Nothing
rest_none s c n place ps h none = record { are_in = tt; values = sym (ap (dropped n) (closure_parts s c place ps h) ∙ dropped_none n ps none) }

pub split_none : (s : Store) (c : Ref) (n place : ℕ) (ps : Values) → IsClosureAt s c place ps → part_at n ps ≡ None → values_of s (form.Captured c n) ≡ NoMore
split_none s c n place ps h none = ap (dropped n) (closure_parts s c place ps h) ∙ dropped_none n ps none

part_told : (o : Option Value) → IsTold o → o ≡ Some (or_nil o)
part_told None h = absurd h
part_told (Some v) h = refl

pub split_below : (s : Store) (c : Ref) (n place : ℕ) (ps : Values) (r : Ref) → IsClosureAt s c place ps → IsPart s (part_at n ps) (Some r) → n + 1 ≤ 65535
split_below s c n place ps r h part = omega (arith, below_count n ps (or_nil (part_at n ps)) (part_told (part_at n ps) part.0), h.few)

pub split_some : (s : Store) (c : Ref) (n place : ℕ) (ps : Values) (r : Ref) (rest : Parts) → IsClosureAt s c place ps → IsPart s (part_at n ps) (Some r) → IsRest s c (n + 1) rest → IsSplit s (form.Captured c n) (record { first = r; rest = rest })
split_some s c n place ps r rest h part is =
    let v = or_nil (part_at n ps) in
    let at : part_at n ps ≡ Some v = part_told (part_at n ps) part.0 in
    let value : s.value r ≡ Some v = part.1 ∙ at in
    let e : n + 1 ≡ suc n = omega arith in
    let others : values_of s rest ≡ dropped (suc n) ps = is.values ∙ ap (λ k. dropped k (parts_in (told s c))) e ∙ ap (dropped (suc n)) (closure_parts s c place ps h) in
    record {
      values = ap (dropped n) (closure_parts s c place ps h) ∙ dropped_some n ps v at ∙ ap (λ w. More w (dropped (suc n) ps)) (sym (told_is s r v value)) ∙ ap (More (told s r)) (sym others);
      first_in = holds_some s r v value;
      rest_in = is.are_in;
    }

-- ## Views

pub shown_var : (s : Store) (w : Value) (v : View) (y : Ref) → IsVariable v (Some y) → Shows s w v → ShowsVar s w y
shown_var s w (view.Unbound r) y is shows = let e : r ≡ y = cc in subst (ShowsVar s w) e shows
shown_var s w (view.Simple x) y is shows = absurd (cc is)
shown_var s w (view.Pair h t) y is shows = absurd (cc is)
shown_var s w (view.Closure p c) y is shows = absurd (cc is)
shown_var s w (view.Unknown r) y is shows = absurd (cc is)

-- a value that is no variable
pub record IsNode (w : Value) : Type 0 where
  pub f : Label
  pub vs : Values
  pub is : w ≡ Node f vs

pub shown_node : (s : Store) (w : Value) (v : View) → IsVariable v None → Shows s w v → IsNode w
shown_node s w (view.Unbound r) is shows = absurd (cc is)
shown_node s w (view.Simple x) is shows = record { f = _; vs = _; is = shows }
shown_node s w (view.Pair h t) is shows = record { f = _; vs = _; is = shows.is }
shown_node s w (view.Closure p c) is shows = record { f = _; vs = _; is = shows.is }
shown_node s w (view.Unknown r) is shows = record { f = _; vs = _; is = shows.is }

-- ## Behind a call

pub in_kept : (old new : Store) (p : Parts) → Kept old new → AreIn old p → AreIn new p
in_kept old new form.Nothing k h = tt
in_kept old new (form.One r) k h = kept_holds old new r k h
in_kept old new (form.Two q r) k h = (kept_holds old new q k h.0, kept_holds old new r k h.1)
in_kept old new (form.Captured c n) k h = record { place = h.place; parts = h.parts; at = record { value = k.values c (Node (Closure h.place) h.parts) h.at.value; few = h.at.few } }

closure_kept : (old new : Store) (c : Ref) → Kept old new → IsClosure old c → told new c ≡ told old c
closure_kept old new c k h = ap or_nil (k.values c (Node (Closure h.place) h.parts) h.at.value ∙ sym h.at.value)

pub values_kept : (old new : Store) (p : Parts) → Kept old new → AreIn old p → values_of new p ≡ values_of old p
values_kept old new form.Nothing k h = refl
values_kept old new (form.One r) k h = ap (λ v. More v NoMore) (kept_told old new r k h)
values_kept old new (form.Two q r) k h =
    let a = kept_told old new q k h.0 in
    let b = kept_told old new r k h.1 in
    rw (a, b) refl
values_kept old new (form.Captured c n) k h = ap (λ v. dropped n (parts_in v)) (closure_kept old new c k h)
