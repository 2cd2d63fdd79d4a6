-- What slots and bindings stand for, when there are more of them.
use Rattle.std.proofs.Common.{◌≡◌, ℕ, zero, suc, ◌+◌, ◌-◌, ◌<◌, ◌≤◌, List, [], ◌∷◌, ◌++◌, Bool, true, false, refl, sym, ap, ◌∙◌, arith, subst, Option, Some, None, inl, inr, length, length-append, append_assoc, append-nil, get_or, All}
use Rattle.std.specs.Prelude.{eqb, nat_lt, nat_le, ◌||◌, ◌&&◌, if◌then◌else◌, map}
use Rattle.std.specs.List.{slice_get}
use Rattle.std.proofs.lemmas.Bool.{or_cases, and_parts, both_ways, cond-true, cond-false, lt-ltb, le-ltb, cases_eq, eq-eqb, ne_eqb}
use Rattle.std.proofs.lemmas.Option.{slice_get_within, get_or_from_slice_get}
use Rattle.dg_meaning.specs.Values.{Unknown, Closure, Value, Var, Node, Values, leaf, pair, node_parts}
use Rattle.dg_meaning.specs.inside.Substitutions.{is_bound, FitsFront, IsSubstitution}
use Rattle.dg_meaning.specs.inside.Unifiers.{binding_of}
use Rattle.dg_meaning.proofs.LookUps.{none_unbound, unbound_none, LooksUp, looks_up}
use Rattle.dg_unify.specs.Store.{or_nil, IsTold}
use Rattle.dg_unify.specs.Links.{to_of}
use Rattle.dg_unify.specs.Slots.{pair_told, and_part, and_letter, captured_slot, letter_slot, captured_in, letters_in, closure_told, word_told, slot_value, ref_value, label_at, value_at, value_in, subst_of, AreTold, IsFew, Begins, is_marked, is_constant, Fits, captured_slots, letter_slots, word_slots}
use Rattle.dg_unify.specs.declared.bindings.Ref.{Ref}
use Rattle.dg_unify.specs.declared.slots.Slot.{Slot}
use Rattle.dg_unify.specs.declared.slots.Slot.TheVariants as slot
use Rattle.dg_unify.specs.declared.slots.Link.{Link}
use Rattle.dg_unify.proofs.Lists.{get_append, get_either, get_behind}
use Rattle.dg_unify.proofs.LinksLemmas.{once_more}

pub option_told : (o : Option Value) → IsTold o → o ≡ Some (or_nil o)
option_told None h = absurd h
option_told (Some v) h = refl

pub some_told : (o : Option Value) (v : Value) → o ≡ Some v → IsTold o
some_told o v h = subst IsTold (sym h) tt

-- ## More slots

-- what one function gives, the other gives too
abbrev Extended : (ℕ → Option Value) → (ℕ → Option Value) → Type 0
Extended go go' = (r : ℕ) (v : Value) → go r ≡ Some v → go' r ≡ Some v

-- what stands in the one list stands in the other too
abbrev Longer : List Slot → List Slot → Type 0
Longer slots slots' = (i : ℕ) (x : Slot) → slice_get slots i ≡ Some x → slice_get slots' i ≡ Some x

pair_more : (a b a' b' : Option Value) (v : Value) → ((w : Value) → a ≡ Some w → a' ≡ Some w) → ((w : Value) → b ≡ Some w → b' ≡ Some w) → pair_told a b ≡ Some v → pair_told a' b' ≡ Some v
pair_more None b a' b' v ha hb h = absurd (cc h)
pair_more (Some x) None a' b' v ha hb h = absurd (cc h)
pair_more (Some x) (Some y) a' b' v ha hb h = rw (ha x refl, hb y refl) h

captured_slot_more : (go go' : ℕ → Option Value) → Extended go go' → (o o' : Option Slot) → ((x : Slot) → o ≡ Some x → o' ≡ Some x) → (v : Value) → captured_slot go o ≡ Some v → captured_slot go' o' ≡ Some v
captured_slot_more go go' up None o' get v h = absurd (cc h)
captured_slot_more go go' up (Some (slot.Captured r)) o' get v h = rw (get (slot.Captured r) refl) (up r.0 v h)
captured_slot_more go go' up (Some (slot.Var n)) o' get v h = absurd (cc h)
captured_slot_more go go' up (Some (slot.Pair x y k)) o' get v h = absurd (cc h)
captured_slot_more go go' up (Some (slot.Closure p n)) o' get v h = absurd (cc h)
captured_slot_more go go' up (Some (slot.Unknown n)) o' get v h = absurd (cc h)
captured_slot_more go go' up (Some (slot.Letter c)) o' get v h = absurd (cc h)

letter_slot_more : (o o' : Option Slot) → ((x : Slot) → o ≡ Some x → o' ≡ Some x) → (c : ℕ) → letter_slot o ≡ Some c → letter_slot o' ≡ Some c
letter_slot_more None o' get c h = absurd (cc h)
letter_slot_more (Some (slot.Letter d)) o' get c h = rw (get (slot.Letter d) refl) h
letter_slot_more (Some (slot.Var n)) o' get c h = absurd (cc h)
letter_slot_more (Some (slot.Pair x y k)) o' get c h = absurd (cc h)
letter_slot_more (Some (slot.Closure p n)) o' get c h = absurd (cc h)
letter_slot_more (Some (slot.Unknown n)) o' get c h = absurd (cc h)
letter_slot_more (Some (slot.Captured r)) o' get c h = absurd (cc h)

part_more : (a a' : Option Value) (b b' : Option Values) (vs : Values) → ((w : Value) → a ≡ Some w → a' ≡ Some w) → ((ws : Values) → b ≡ Some ws → b' ≡ Some ws) → and_part a b ≡ Some vs → and_part a' b' ≡ Some vs
part_more None a' b b' vs ha hb h = absurd (cc h)
part_more (Some x) a' None b' vs ha hb h = absurd (cc h)
part_more (Some x) a' (Some ys) b' vs ha hb h = rw (ha x refl, hb ys refl) h

letter_more : (a a' : Option ℕ) (b b' : Option (List ℕ)) (cs : List ℕ) → ((w : ℕ) → a ≡ Some w → a' ≡ Some w) → ((ws : List ℕ) → b ≡ Some ws → b' ≡ Some ws) → and_letter a b ≡ Some cs → and_letter a' b' ≡ Some cs
letter_more None a' b b' cs ha hb h = absurd (cc h)
letter_more (Some x) a' None b' cs ha hb h = absurd (cc h)
letter_more (Some x) a' (Some ys) b' cs ha hb h = rw (ha x refl, hb ys refl) h

captured_more : (go go' : ℕ → Option Value) → Extended go go' → (slots slots' : List Slot) → Longer slots slots' → (at n : ℕ) (vs : Values) → captured_in go slots at n ≡ Some vs → captured_in go' slots' at n ≡ Some vs
captured_more go go' up slots slots' get at zero vs h = h
captured_more go go' up slots slots' get at (suc n) vs h =
    part_more (captured_slot go (slice_get slots at)) (captured_slot go' (slice_get slots' at)) (captured_in go slots (suc at) n) (captured_in go' slots' (suc at) n) vs
    (captured_slot_more go go' up (slice_get slots at) (slice_get slots' at) (get at))
    (captured_more go go' up slots slots' get (suc at) n) h

letters_more : (slots slots' : List Slot) → Longer slots slots' → (at n : ℕ) (cs : List ℕ) → letters_in slots at n ≡ Some cs → letters_in slots' at n ≡ Some cs
letters_more slots slots' get at zero cs h = h
letters_more slots slots' get at (suc n) cs h =
    letter_more (letter_slot (slice_get slots at)) (letter_slot (slice_get slots' at)) (letters_in slots (suc at) n) (letters_in slots' (suc at) n) cs
    (letter_slot_more (slice_get slots at) (slice_get slots' at) (get at))
    (letters_more slots slots' get (suc at) n) h

closure_more : (place : ℕ) (a a' : Option Values) (v : Value) → ((ws : Values) → a ≡ Some ws → a' ≡ Some ws) → closure_told place a ≡ Some v → closure_told place a' ≡ Some v
closure_more place None a' v ha h = absurd (cc h)
closure_more place (Some ws) a' v ha h = rw (ha ws refl) h

word_more : (a a' : Option (List ℕ)) (v : Value) → ((ws : List ℕ) → a ≡ Some ws → a' ≡ Some ws) → word_told a ≡ Some v → word_told a' ≡ Some v
word_more None a' v ha h = absurd (cc h)
word_more (Some ws) a' v ha h = rw (ha ws refl) h

slot_more : (go go' : ℕ → Option Value) → Extended go go' → (slots slots' : List Slot) → Longer slots slots' → (at : ℕ) (o o' : Option Slot) → ((x : Slot) → o ≡ Some x → o' ≡ Some x) → (v : Value) → slot_value go slots at o ≡ Some v → slot_value go' slots' at o' ≡ Some v
slot_more go go' up slots slots' longer at None o' get v h = absurd (cc h)
slot_more go go' up slots slots' longer at (Some (slot.Var n)) o' get v h = rw (get (slot.Var n) refl) h
slot_more go go' up slots slots' longer at (Some (slot.Pair x y k)) o' get v h = rw (get (slot.Pair x y k) refl) (pair_more (go x.0) (go y.0) (go' x.0) (go' y.0) v (up x.0) (up y.0) h)
slot_more go go' up slots slots' longer at (Some (slot.Closure p n)) o' get v h =
    rw (get (slot.Closure p n) refl) (closure_more p (captured_in go slots (suc at) n) (captured_in go' slots' (suc at) n) v (captured_more go go' up slots slots' longer (suc at) n) h)
slot_more go go' up slots slots' longer at (Some (slot.Unknown n)) o' get v h =
    rw (get (slot.Unknown n) refl) (word_more (letters_in slots (suc at) n) (letters_in slots' (suc at) n) v (letters_more slots slots' longer (suc at) n) h)
slot_more go go' up slots slots' longer at (Some (slot.Captured r)) o' get v h = absurd (cc h)
slot_more go go' up slots slots' longer at (Some (slot.Letter c)) o' get v h = absurd (cc h)

ref_more : (a b : Option Value) (r : ℕ) (v : Value) → (a ≡ Some v → b ≡ Some v) → ref_value a r ≡ Some v → ref_value b r ≡ Some v
ref_more a b r v up =
    elim (nat_lt r 2147483648) as (λ t. (if t then a else Some (leaf (label_at (r - 2147483648)))) ≡ Some v → (if t then b else Some (leaf (label_at (r - 2147483648)))) ≡ Some v) [ true ↦ λ h. up h | false ↦ λ h. h ]

pub value_more : (n m : ℕ) (slots extra : List Slot) → n ≤ m → (r : ℕ) (v : Value) → value_at slots n r ≡ Some v → value_at (slots ++ extra) m r ≡ Some v
value_more zero zero slots extra le r v h = h
value_more zero (suc m) slots extra le r v h = ref_more None (slot_value (value_at (slots ++ extra) m) (slots ++ extra) r (slice_get (slots ++ extra) r)) r v (λ e. absurd (cc e)) h
value_more (suc n) zero slots extra le r v h = absurd (omega arith)
value_more (suc n) (suc m) slots extra le r v h =
    ref_more (slot_value (value_at slots n) slots r (slice_get slots r)) (slot_value (value_at (slots ++ extra) m) (slots ++ extra) r (slice_get (slots ++ extra) r)) r v
    (λ e.
    slot_more (value_at slots n) (value_at (slots ++ extra) m) (λ r' v' h'. value_more n m slots extra (omega arith) r' v' h') slots (slots ++ extra) (get_append slots extra) r (slice_get slots r) (slice_get (slots ++ extra) r)
    (get_append slots extra r) v e) h

pub in_more : (slots extra : List Slot) (r : ℕ) (v : Value) → value_in slots r ≡ Some v → value_in (slots ++ extra) r ≡ Some v
in_more slots extra r v h = value_more (length slots) (length (slots ++ extra)) slots extra (omega (arith, length-append slots extra)) r v h

-- ## More slots under the same bindings

told_more : (slots extra : List Slot) (ls : List Link) → AreTold slots ls → AreTold (slots ++ extra) ls
told_more slots extra [] h = tt
told_more slots extra (l ∷ ls) h = (some_told (value_in (slots ++ extra) l.to.0) _ (in_more slots extra l.to.0 (or_nil (value_in slots l.to.0)) (option_told (value_in slots l.to.0) h.0)), told_more slots extra ls h.1)

pub subst_more : (slots extra : List Slot) (ls : List Link) → AreTold slots ls → subst_of (slots ++ extra) ls ≡ subst_of slots ls
subst_more slots extra [] h = refl
subst_more slots extra (l ∷ ls) h =
    let e : value_in (slots ++ extra) l.to.0 ≡ Some (or_nil (value_in slots l.to.0)) = in_more slots extra l.to.0 (or_nil (value_in slots l.to.0)) (option_told (value_in slots l.to.0) h.0) in
    rw (subst_more slots extra ls h.1, e) refl

pub told_to : (slots : List Slot) (ls : List Link) (n : ℕ) (q : Ref) → AreTold slots ls → to_of n ls ≡ Some q → IsTold (value_in slots q.0)
told_to slots [] n q h e = absurd (cc e)
told_to slots (l ∷ ls) n q h e =
    elim (cases_eq n l.var) [
      | inl is ↦
          let k : Some l.to ≡ Some q = sym (cond-true (eqb n l.var) (Some l.to) (to_of n ls) (eq-eqb n l.var is)) ∙ e in
          let same : l.to ≡ q = cc in
          subst (λ (r : Ref). IsTold (value_in slots r.0)) same h.0
      | inr ne ↦ told_to slots ls n q h.1 (sym (cond-false (eqb n l.var) (Some l.to) (to_of n ls) (ne_eqb n l.var ne)) ∙ e)
    ]

-- what a variable is bound to, in the list and in the substitution
abbrev pub bound_value : List Slot → Option Ref → Option Value
bound_value slots None = None
bound_value slots (Some r) = Some (or_nil (value_in slots r.0))

pub binding_is : (slots : List Slot) (ls : List Link) (n : ℕ) → binding_of n (subst_of slots ls) ≡ bound_value slots (to_of n ls)
binding_is slots [] n = refl
binding_is slots (l ∷ ls) n =
    elim (cases_eq n l.var) [
      | inl e ↦ rw (eq-eqb n l.var e) refl
      | inr ne ↦ rw (ne_eqb n l.var ne) (binding_is slots ls n)
    ]

pub none_is_unbound : (slots : List Slot) (ls : List Link) (n : ℕ) → to_of n ls ≡ None → is_bound n (subst_of slots ls) ≡ false
none_is_unbound slots ls n h = none_unbound n (subst_of slots ls) (binding_is slots ls n ∙ ap (bound_value slots) h)

some_bound : (slots : List Slot) (o : Option Ref) → bound_value slots o ≡ None → o ≡ None
some_bound slots None h = refl
some_bound slots (Some r) h = absurd (cc h)

pub unbound_is_none : (slots : List Slot) (ls : List Link) (n : ℕ) → is_bound n (subst_of slots ls) ≡ false → to_of n ls ≡ None
unbound_is_none slots ls n h = some_bound slots (to_of n ls) (sym (binding_is slots ls n) ∙ unbound_none n (subst_of slots ls) h)

pub looks_to : (slots : List Slot) (ls : List Link) (n : ℕ) (q : Ref) → IsSubstitution (subst_of slots ls) → to_of n ls ≡ Some q → LooksUp (subst_of slots ls) n (or_nil (value_in slots q.0))
looks_to slots ls n q s h = looks_up (subst_of slots ls) n (or_nil (value_in slots q.0)) s (binding_is slots ls n ∙ ap (bound_value slots) h)

-- ## What slots, bindings and variables keep

at_slot : (slots : List Slot) (n r : ℕ) (x : Slot) → slice_get slots r ≡ Some x → r < 2147483648 → value_at slots (suc n) r ≡ slot_value (value_at slots n) slots r (Some x)
at_slot slots n r x is lt = rw (lt-ltb r 2147483648 lt, is) refl

pub new_slot : (slots extra : List Slot) (x : Slot) → length slots < 2147483648 → value_in (slots ++ x ∷ extra) (length slots) ≡ slot_value (value_at (slots ++ x ∷ extra) (length slots + length extra)) (slots ++ x ∷ extra) (length slots) (Some x)
new_slot slots extra x lt =
    let n : length (slots ++ x ∷ extra) ≡ suc (length slots + length extra) = omega (arith, length-append slots (x ∷ extra)) in
    ap (λ k. value_at (slots ++ x ∷ extra) k (length slots)) n ∙ at_slot (slots ++ x ∷ extra) (length slots + length extra) (length slots) x (get_behind slots extra x) lt

-- a slot that is no variable, with no more behind it than it may have
abbrev pub IsPlain : Slot → Type 0
IsPlain (slot.Var n) = ⊥
IsPlain (slot.Closure place n) = n ≤ 65535
IsPlain (slot.Unknown n) = n ≤ 200
IsPlain other = Unit {0}

abbrev pub ArePlain : List Slot → Type 0
ArePlain [] = Unit {0}
ArePlain (x ∷ xs) = IsPlain x × ArePlain xs

plain_at : (xs : List Slot) → ArePlain xs → (j : ℕ) (x : Slot) → slice_get xs j ≡ Some x → IsPlain x
plain_at [] h j x e = absurd (cc e)
plain_at (y ∷ xs) h zero x e = let k : y ≡ x = cc in subst IsPlain k h.0
plain_at (y ∷ xs) h (suc j) x e = plain_at xs h.1 j x e

plain_few : (x : Slot) → IsPlain x → IsFew x
plain_few (slot.Var n) h = absurd h
plain_few (slot.Pair x y k) h = tt
plain_few (slot.Closure place n) h = h
plain_few (slot.Captured r) h = tt
plain_few (slot.Unknown n) h = h
plain_few (slot.Letter c) h = tt

pub plain_captured : (rs : List Ref) → ArePlain (captured_slots rs)
plain_captured [] = tt
plain_captured (r ∷ rs) = (tt, plain_captured rs)

pub plain_letters : (cs : List ℕ) → ArePlain (letter_slots cs)
plain_letters [] = tt
plain_letters (c ∷ cs) = (tt, plain_letters cs)

old_var : (slots extra : List Slot) → ArePlain extra → (i n : ℕ) → slice_get (slots ++ extra) i ≡ Some (slot.Var n) → slice_get slots i ≡ Some (slot.Var n)
old_var slots extra none i n h =
    elim (get_either slots extra i (slot.Var n) h) [ inl e ↦ e | inr e ↦ absurd (plain_at extra none e.0 (slot.Var n) e.2) ]

-- a slot that is part of a value
abbrev IsInner : Slot → Type 0
IsInner x = Begins x → ⊥

abbrev pub AreInner : List Slot → Type 0
AreInner [] = Unit {0}
AreInner (x ∷ xs) = IsInner x × AreInner xs

inner_at : (xs : List Slot) → AreInner xs → (j : ℕ) (x : Slot) → slice_get xs j ≡ Some x → Begins x → ⊥
inner_at [] h j x e b = cc e
inner_at (y ∷ xs) h zero x e b = let k : y ≡ x = cc in h.0 (subst Begins (sym k) b)
inner_at (y ∷ xs) h (suc j) x e b = inner_at xs h.1 j x e b

pub inner_captured : (rs : List Ref) → AreInner (captured_slots rs)
inner_captured [] = tt
inner_captured (r ∷ rs) = (λ h. h, inner_captured rs)

pub inner_letters : (cs : List ℕ) → AreInner (letter_slots cs)
inner_letters [] = tt
inner_letters (c ∷ cs) = (λ h. h, inner_letters cs)

behind_told : (slots extra : List Slot) (x : Slot) (i : ℕ) (y : Slot) → AreInner extra → IsTold (value_in (slots ++ x ∷ extra) (length slots)) → Begins y → (j : ℕ) → i ≡ length slots + j → slice_get (x ∷ extra) j ≡ Some y → IsTold (value_in (slots ++ x ∷ extra) i)
behind_told slots extra x i y inner told begins zero is k = let e : length slots ≡ i = omega (arith, is) in subst (λ n. IsTold (value_in (slots ++ x ∷ extra) n)) e told
behind_told slots extra x i y inner told begins (suc j) is k = absurd (inner_at extra inner j y k begins)

-- one value more, in a slot with its parts behind it
whole_more : (slots extra : List Slot) (x : Slot) (ls : List Link) (vars : ℕ) → Fits slots ls vars → AreInner extra → IsTold (value_in (slots ++ x ∷ extra) (length slots)) → (i : ℕ) (y : Slot) → slice_get (slots ++ x ∷ extra) i ≡ Some y → Begins y → IsTold (value_in (slots ++ x ∷ extra) i)
whole_more slots extra x ls vars b inner told i y h begins =
    let all = slots ++ x ∷ extra in
    elim (get_either slots (x ∷ extra) i y h) [
      | inl e ↦ some_told (value_in all i) (or_nil (value_in slots i)) (in_more slots (x ∷ extra) i (or_nil (value_in slots i)) (option_told (value_in slots i) (b.whole i y e begins)))
      | inr e ↦ behind_told slots extra x i y inner told begins e.0 e.1 e.2
    ]

or_known : (a b : Bool) → b ≡ true → (a || b) ≡ true
or_known true b h = refl
or_known false b h = h

marked_slot : (o : Option Slot) → is_marked o ≡ true → (y : Slot) × (o ≡ Some y)
marked_slot None h = absurd (cc h)
marked_slot (Some y) h = (y, refl)

constant_more : (slots extra : List Slot) (r : Ref) → is_constant slots r ≡ true → is_constant (slots ++ extra) r ≡ true
constant_more slots extra r h =
    let a = nat_le 2147483648 r.0 in
    elim (or_cases a (is_marked (slice_get slots r.0)) h) [
      | inl e ↦ ap (λ b. b || is_marked (slice_get (slots ++ extra) r.0)) e
      | inr e ↦
          let y = marked_slot (slice_get slots r.0) e in
          or_known a (is_marked (slice_get (slots ++ extra) r.0)) (ap is_marked (get_append slots extra r.0 y.0 y.1) ∙ sym (ap is_marked y.1) ∙ e)
    ]

-- a slot is marked as a pair without variables only where its parts are
abbrev pub MarksRightly : List Slot → Slot → Type 0
MarksRightly slots x = (h t : Ref) → x ≡ slot.Pair h t true → (is_constant slots h ≡ true) × (is_constant slots t ≡ true)

marks_behind : (slots extra : List Slot) (x : Slot) (h t : Ref) → AreInner extra → MarksRightly slots x → (j : ℕ) → slice_get (x ∷ extra) j ≡ Some (slot.Pair h t true) → (is_constant slots h ≡ true) × (is_constant slots t ≡ true)
marks_behind slots extra x h t inner marks zero e = marks h t cc
marks_behind slots extra x h t inner marks (suc j) e = absurd (inner_at extra inner j (slot.Pair h t true) e tt)

marks_more : (slots extra : List Slot) (x : Slot) (ls : List Link) (vars : ℕ) → Fits slots ls vars → AreInner extra → MarksRightly slots x → (i : ℕ) (h t : Ref) → slice_get (slots ++ x ∷ extra) i ≡ Some (slot.Pair h t true) → (is_constant (slots ++ x ∷ extra) h ≡ true) × (is_constant (slots ++ x ∷ extra) t ≡ true)
marks_more slots extra x ls vars b inner marks i h t e =
    let c : (is_constant slots h ≡ true) × (is_constant slots t ≡ true) =
    elim (get_either slots (x ∷ extra) i (slot.Pair h t true) e) [ inl k ↦ b.constant i h t k | inr k ↦ marks_behind slots extra x h t inner marks k.0 k.2 ] in
    (constant_more slots (x ∷ extra) h c.0, constant_more slots (x ∷ extra) t c.1)

pub no_marks : (slots : List Slot) (x : Slot) → is_marked (Some x) ≡ false → MarksRightly slots x
no_marks slots x h = λ a b e. absurd (both_ways (is_marked (Some x)) h (ap (λ y. is_marked (Some y)) e))

pub pair_marks : (slots : List Slot) (a b : Ref) (k : Bool) → k ≡ (is_constant slots a && is_constant slots b) → MarksRightly slots (slot.Pair a b k)
pair_marks slots a b k is = λ h t e.
    let ea : a ≡ h = cc in
    let eb : b ≡ t = cc in
    let ek : k ≡ true = cc in
    let c = and_parts (is_constant slots a) (is_constant slots b) (sym is ∙ ek) in
    (ap (is_constant slots) (sym ea) ∙ c.0, ap (is_constant slots) (sym eb) ∙ c.1)

-- slots that begin nothing
pub fits_inner : (slots extra : List Slot) (ls : List Link) (vars : ℕ) → ArePlain extra → AreInner extra → Fits slots ls vars → length slots + length extra ≤ 2147483648 → Fits (slots ++ extra) ls vars
fits_inner slots extra ls vars none inner b le = record {
  sound = rw (subst_more slots extra ls b.told) b.sound;
  told = told_more slots extra ls b.told;
  once = b.once;
  below = λ i n h. b.below i n (old_var slots extra none i n h);
  few = λ i y h. elim (get_either slots extra i y h) [ inl e ↦ b.few i y e | inr e ↦ plain_few y (plain_at extra none e.0 y e.2) ];
  rising = λ i j m n hi hj lt. b.rising i j m n (old_var slots extra none i m hi) (old_var slots extra none j n hj) lt;
  whole = λ i y h begins. elim (get_either slots extra i y h) [
    | inl e ↦ some_told (value_in (slots ++ extra) i) (or_nil (value_in slots i)) (in_more slots extra i (or_nil (value_in slots i)) (option_told (value_in slots i) (b.whole i y e begins)))
    | inr e ↦ absurd (inner_at extra inner e.0 y e.2 begins)
  ];
  constant = λ i h t e.
      let c : (is_constant slots h ≡ true) × (is_constant slots t ≡ true) =
      elim (get_either slots extra i (slot.Pair h t true) e) [ inl k ↦ b.constant i h t k | inr k ↦ absurd (inner_at extra inner k.0 (slot.Pair h t true) k.2 tt) ] in
      (constant_more slots extra h c.0, constant_more slots extra t c.1);
  room = omega (arith, length-append slots extra);
  fewer = omega (arith, length-append slots extra, b.fewer);
}

pub plain_words : (ws : List ℕ) → ArePlain (word_slots ws)
plain_words [] = tt
plain_words (w ∷ ws) = (tt, plain_words ws)

pub inner_words : (ws : List ℕ) → AreInner (word_slots ws)
inner_words [] = tt
inner_words (w ∷ ws) = (λ h. h, inner_words ws)

pub words_length : (ws : List ℕ) → length (word_slots ws) ≡ length ws
words_length [] = refl
words_length (w ∷ ws) = ap suc (words_length ws)

pub fits_more : (slots extra : List Slot) (x : Slot) (ls : List Link) (vars : ℕ) → ArePlain (x ∷ extra) → AreInner extra → IsTold (value_in (slots ++ x ∷ extra) (length slots)) → MarksRightly slots x → Fits slots ls vars → length slots + length (x ∷ extra) ≤ 2147483648 → Fits (slots ++ x ∷ extra) ls vars
fits_more slots extra x ls vars none inner is_told marks b le = record {
  sound = rw (subst_more slots (x ∷ extra) ls b.told) b.sound;
  told = told_more slots (x ∷ extra) ls b.told;
  once = b.once;
  below = λ i n h. b.below i n (old_var slots (x ∷ extra) none i n h);
  few = λ i y h. elim (get_either slots (x ∷ extra) i y h) [ inl e ↦ b.few i y e | inr e ↦ plain_few y (plain_at (x ∷ extra) none e.0 y e.2) ];
  rising = λ i j m n hi hj lt. b.rising i j m n (old_var slots (x ∷ extra) none i m hi) (old_var slots (x ∷ extra) none j n hj) lt;
  whole = whole_more slots extra x ls vars b inner is_told;
  constant = marks_more slots extra x ls vars b inner marks;
  room = omega (arith, length-append slots (x ∷ extra));
  fewer = omega (arith, length-append slots (x ∷ extra), b.fewer);
}

only_var : (k j n : ℕ) → slice_get (slot.Var k ∷ []) j ≡ Some (slot.Var n) → (j ≡ 0) × (k ≡ n)
only_var k zero n h = (refl, let e : slot.Var k ≡ slot.Var n = cc in cc)
only_var k (suc j) n h = absurd (cc h)

var_few : (k j : ℕ) (x : Slot) → slice_get (slot.Var k ∷ []) j ≡ Some x → IsFew x
var_few k zero x h = let e : slot.Var k ≡ x = cc in subst IsFew e tt
var_few k (suc j) x h = absurd (cc h)

pub fits_var : (slots : List Slot) (ls : List Link) (vars : ℕ) → Fits slots ls vars → length slots < 2147483648 → Fits (slots ++ slot.Var vars ∷ []) ls (vars + 1)
fits_var slots ls vars b lt = record {
  sound = rw (subst_more slots (slot.Var vars ∷ []) ls b.told) b.sound;
  told = told_more slots (slot.Var vars ∷ []) ls b.told;
  once = once_more vars (vars + 1) ls (omega arith) b.once;
  below = λ i n h.
      elim (get_either slots (slot.Var vars ∷ []) i (slot.Var n) h) [
        | inl e ↦ let k = b.below i n e in omega (arith, k)
        | inr e ↦ let k = only_var vars e.0 n e.2 in omega (arith, k.1)
      ];
  few = λ i x h. elim (get_either slots (slot.Var vars ∷ []) i x h) [ inl e ↦ b.few i x e | inr e ↦ var_few vars e.0 x e.2 ];
  whole = whole_more slots [] (slot.Var vars) ls vars b tt (some_told (value_in (slots ++ slot.Var vars ∷ []) (length slots)) (Var vars) (new_slot slots [] (slot.Var vars) lt));
  constant = marks_more slots [] (slot.Var vars) ls vars b tt (no_marks slots (slot.Var vars) refl);
  rising = λ i j m n hi hj lt'.
      elim (get_either slots (slot.Var vars ∷ []) i (slot.Var m) hi) [
        | inl a ↦
            elim (get_either slots (slot.Var vars ∷ []) j (slot.Var n) hj) [
              | inl e ↦ b.rising i j m n a e lt'
              | inr e ↦ let k = only_var vars e.0 n e.2 in let l = b.below i m a in omega (arith, k.1, l)
            ]
        | inr a ↦
            let k = only_var vars a.0 m a.2 in
            elim (get_either slots (slot.Var vars ∷ []) j (slot.Var n) hj) [
              | inl e ↦ absurd (omega (arith, a.1, slice_get_within slots j (slot.Var n) e))
              | inr e ↦ let l = only_var vars e.0 n e.2 in absurd (omega (arith, a.1, e.1, k.0, l.0))
            ]
      ];
  room = omega (arith, length-append slots (slot.Var vars ∷ []));
  fewer = omega (arith, length-append slots (slot.Var vars ∷ []), b.fewer);
}

pub fits_link : (slots : List Slot) (ls : List Link) (vars : ℕ) (l : Link) → Fits slots ls vars → FitsFront l.var (or_nil (value_in slots l.to.0)) (subst_of slots ls) → IsTold (value_in slots l.to.0) → l.var < vars → Fits slots (l ∷ ls) vars
fits_link slots ls vars l b fits told lt = record {
  sound = (fits, b.sound);
  told = (told, b.told);
  once = (lt, unbound_is_none slots ls l.var fits.unbound, b.once);
  below = b.below;
  rising = b.rising;
  few = b.few;
  whole = b.whole;
  constant = b.constant;
  room = b.room;
  fewer = b.fewer;
}

-- ## What new slots stand for

-- all these Refs stand for values
abbrev pub AllTold : List Slot → List Ref → Type 0
AllTold slots [] = Unit {0}
AllTold slots (r ∷ rs) = IsTold (value_in slots r.0) × AllTold slots rs

pub each_told : (slots : List Slot) (rs : List Ref) → All (λ (r : Ref). IsTold (value_in slots r.0)) rs → AllTold slots rs
each_told slots [] h = tt
each_told slots (r ∷ rs) h = (h 0 r (omega arith), each_told slots rs (λ k d lt. h (suc k) d (omega arith)))

abbrev pub values_of : List Slot → List Ref → Values
values_of slots rs = node_parts (map (λ (r : Ref). or_nil (value_in slots r.0)) rs)

captured_here : (go : ℕ → Option Value) (slots : List Slot) → ((r : ℕ) (v : Value) → value_in slots r ≡ Some v → go r ≡ Some v) → (before : List Slot) (rs : List Ref) (at : ℕ) → at ≡ length before → AllTold slots rs → captured_in go (before ++ captured_slots rs) at (length rs) ≡ Some (values_of slots rs)
captured_here go slots up before [] at is h = refl
captured_here go slots up before (r ∷ rs) at is h =
    let one : slice_get (before ++ slot.Captured r ∷ captured_slots rs) at ≡ Some (slot.Captured r) = rw is (get_behind before (captured_slots rs) (slot.Captured r)) in
    let first : go r.0 ≡ Some (or_nil (value_in slots r.0)) = up r.0 (or_nil (value_in slots r.0)) (option_told (value_in slots r.0) h.0) in
    let e : (before ++ slot.Captured r ∷ []) ++ captured_slots rs ≡ before ++ slot.Captured r ∷ captured_slots rs = append_assoc before (slot.Captured r ∷ []) (captured_slots rs) in
    let others : captured_in go (before ++ slot.Captured r ∷ captured_slots rs) (suc at) (length rs) ≡ Some (values_of slots rs) =
    subst (λ xs. captured_in go xs (suc at) (length rs) ≡ Some (values_of slots rs)) e
    (captured_here go slots up (before ++ slot.Captured r ∷ []) rs (suc at) (omega (arith, is, length-append before (slot.Captured r ∷ []))) h.1) in
    rw (one, first, others) refl

letters_here : (before : List Slot) (cs : List ℕ) (at : ℕ) → at ≡ length before → letters_in (before ++ letter_slots cs) at (length cs) ≡ Some cs
letters_here before [] at is = refl
letters_here before (c ∷ cs) at is =
    let one : slice_get (before ++ slot.Letter c ∷ letter_slots cs) at ≡ Some (slot.Letter c) = rw is (get_behind before (letter_slots cs) (slot.Letter c)) in
    let e : (before ++ slot.Letter c ∷ []) ++ letter_slots cs ≡ before ++ slot.Letter c ∷ letter_slots cs = append_assoc before (slot.Letter c ∷ []) (letter_slots cs) in
    let others : letters_in (before ++ slot.Letter c ∷ letter_slots cs) (suc at) (length cs) ≡ Some cs =
    subst (λ xs. letters_in xs (suc at) (length cs) ≡ Some cs) e (letters_here (before ++ slot.Letter c ∷ []) cs (suc at) (omega (arith, is, length-append before (slot.Letter c ∷ [])))) in
    rw (one, others) refl

pub new_pair : (slots : List Slot) (h t : Ref) (k : Bool) → length slots < 2147483648 → IsTold (value_in slots h.0) → IsTold (value_in slots t.0) → value_in (slots ++ slot.Pair h t k ∷ []) (length slots) ≡ Some (pair (or_nil (value_in slots h.0)) (or_nil (value_in slots t.0)))
new_pair slots h t k lt hh ht =
    let vh = value_more (length slots) (length slots + 0) slots (slot.Pair h t k ∷ []) (omega arith) h.0 (or_nil (value_in slots h.0)) (option_told (value_in slots h.0) hh) in
    let vt = value_more (length slots) (length slots + 0) slots (slot.Pair h t k ∷ []) (omega arith) t.0 (or_nil (value_in slots t.0)) (option_told (value_in slots t.0) ht) in
    new_slot slots [] (slot.Pair h t k) lt ∙ rw (vh, vt) refl

pub new_closure : (slots : List Slot) (place : ℕ) (rs : List Ref) → length slots < 2147483648 → AllTold slots rs → value_in (slots ++ slot.Closure place (length rs) ∷ captured_slots rs) (length slots) ≡ Some (Node (Closure place) (values_of slots rs))
new_closure slots place rs lt h =
    let x = slot.Closure place (length rs) in
    let all = slots ++ x ∷ captured_slots rs in
    let n = length slots + length (captured_slots rs) in
    let e : (slots ++ x ∷ []) ++ captured_slots rs ≡ all = append_assoc slots (x ∷ []) (captured_slots rs) in
    let go : (r : ℕ) (v : Value) → value_in slots r ≡ Some v → value_at all n r ≡ Some v = λ r v is. value_more (length slots) n slots (x ∷ captured_slots rs) (omega arith) r v is in
    let inner : captured_in (value_at all n) all (suc (length slots)) (length rs) ≡ Some (values_of slots rs) =
    subst (λ xs. captured_in (value_at all n) xs (suc (length slots)) (length rs) ≡ Some (values_of slots rs)) e
    (captured_here (value_at all n) slots go (slots ++ x ∷ []) rs (suc (length slots)) (omega (arith, length-append slots (x ∷ []))) h) in
    new_slot slots (captured_slots rs) x lt ∙ ap (closure_told place) inner

pub new_word : (slots : List Slot) (cs : List ℕ) → length slots < 2147483648 → value_in (slots ++ slot.Unknown (length cs) ∷ letter_slots cs) (length slots) ≡ Some (leaf (Unknown cs))
new_word slots cs lt =
    let x = slot.Unknown (length cs) in
    let all = slots ++ x ∷ letter_slots cs in
    let e : (slots ++ x ∷ []) ++ letter_slots cs ≡ all = append_assoc slots (x ∷ []) (letter_slots cs) in
    let inner : letters_in all (suc (length slots)) (length cs) ≡ Some cs =
    subst (λ xs. letters_in xs (suc (length slots)) (length cs) ≡ Some cs) e (letters_here (slots ++ x ∷ []) cs (suc (length slots)) (omega (arith, length-append slots (x ∷ [])))) in
    new_slot slots (letter_slots cs) x lt ∙ ap word_told inner

-- ## Reading slots

some_slot : (go : ℕ → Option Value) (slots : List Slot) (at : ℕ) (o : Option Slot) → IsTold (slot_value go slots at o) → (x : Slot) × (o ≡ Some x)
some_slot go slots at None h = absurd h
some_slot go slots at (Some x) h = (x, refl)

-- a slot, and what it stands for, from values that are less deep
pub record SlotAt (slots : List Slot) (n r : ℕ) : Type 0 where
  pub x : Slot
  pub get : slice_get slots r ≡ Some x
  pub m : ℕ
  pub le : m ≤ n
  pub is : value_at slots n r ≡ slot_value (value_at slots m) slots r (Some x)

pub told_slot : (slots : List Slot) (n r : ℕ) → IsTold (value_at slots n r) → r < 2147483648 → SlotAt slots n r
told_slot slots zero r h lt = let k : IsTold None = rw (lt-ltb r 2147483648 lt) at h in absurd k
told_slot slots (suc m) r h lt =
    let e : value_at slots (suc m) r ≡ slot_value (value_at slots m) slots r (slice_get slots r) = rw (lt-ltb r 2147483648 lt) refl in
    let c = some_slot (value_at slots m) slots r (slice_get slots r) (subst IsTold e h) in
    record { x = c.0; get = c.1; m = m; le = omega arith; is = e ∙ ap (slot_value (value_at slots m) slots r) c.1 }

pub simple_in : (slots : List Slot) (r n : ℕ) → 2147483648 ≤ r → value_at slots n r ≡ Some (leaf (label_at (r - 2147483648)))
simple_in slots r zero le = rw (le-ltb r 2147483648 le) refl
simple_in slots r (suc n) le = rw (le-ltb r 2147483648 le) refl

pub read_is : {X : Type 0} (xs : List X) (i : ℕ) (x y : X) → slice_get xs i ≡ Some x → y ≡ get_or xs i y → y ≡ x
read_is xs i x y h e = e ∙ get_or_from_slice_get xs i x y h

pub deeper : (slots : List Slot) (m n r : ℕ) (v : Value) → m ≤ n → value_at slots m r ≡ Some v → value_at slots n r ≡ Some v
deeper slots m n r v le h = subst (λ (x : List Slot). value_at x n r ≡ Some v) (append-nil slots) (value_more m n slots [] le r v h)
