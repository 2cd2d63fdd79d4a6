-- What holds of every store that keeps slots and bindings: of two variables the younger has the greater Ref, and the newest mark may be forgotten.
use Rattle.std.proofs.Common.{◌≡◌, ℕ, zero, suc, ◌-◌, ◌<◌, ◌≤◌, List, [], ◌∷◌, Bool, ap, arith, refl, sym, subst, false, Option, Some, None, length}
use Rattle.std.specs.Prelude.{nat_lt}
use Rattle.std.specs.List.{slice_get}
use Rattle.std.proofs.lemmas.Bool.{cond_both, ltb-true}
use Rattle.dg_meaning.specs.Values.{Value, Var, leaf, Values}
use Rattle.dg_unify.specs.Store.{Saved, is_single}
use Rattle.dg_unify.specs.Slots.{pair_told, closure_told, word_told, captured_in, letters_in, slot_value, label_at, value_at, value_in, Fits, Fields, Saves, Stand}
use Rattle.dg_unify.specs.declared.bindings.Ref.{Ref}
use Rattle.dg_unify.specs.declared.slots.Slot.{Slot}
use Rattle.dg_unify.specs.declared.slots.Slot.TheVariants as slot
use Rattle.dg_unify.specs.declared.slots.Link.{Link}

pair_no_var : (a b : Option Value) (x : ℕ) → pair_told a b ≡ Some (Var x) → ⊥
pair_no_var None b x h = cc h
pair_no_var (Some u) None x h = cc h
pair_no_var (Some u) (Some v) x h = cc h

closure_no_var : (place : ℕ) (vs : Option Values) (x : ℕ) → closure_told place vs ≡ Some (Var x) → ⊥
closure_no_var place None x h = cc h
closure_no_var place (Some vs) x h = cc h

word_no_var : (cs : Option (List ℕ)) (x : ℕ) → word_told cs ≡ Some (Var x) → ⊥
word_no_var None x h = cc h
word_no_var (Some cs) x h = cc h

var_slot : (go : ℕ → Option Value) (slots : List Slot) (at : ℕ) (o : Option Slot) (x : ℕ) → slot_value go slots at o ≡ Some (Var x) →
    o ≡ Some (slot.Var x)
var_slot go slots at None x h = absurd (cc h)
var_slot go slots at (Some (slot.Var n)) x h = let e : n ≡ x = cc in ap (λ k. Some (slot.Var k)) e
var_slot go slots at (Some (slot.Pair h t k)) x e = absurd (pair_no_var (go h.0) (go t.0) x e)
var_slot go slots at (Some (slot.Closure place n)) x e = absurd (closure_no_var place (captured_in go slots (suc at) n) x e)
var_slot go slots at (Some (slot.Unknown n)) x e = absurd (word_no_var (letters_in slots (suc at) n) x e)
var_slot go slots at (Some (slot.Captured r)) x e = absurd (cc e)
var_slot go slots at (Some (slot.Letter c)) x e = absurd (cc e)

-- where a variable stands
pub place_of_var : (slots : List Slot) (n r x : ℕ) → value_at slots n r ≡ Some (Var x) → (r < 2147483648) × (slice_get slots r ≡ Some (slot.Var x))
place_of_var slots zero r x h =
    cond_both (nat_lt r 2147483648) None (Some (leaf (label_at (r - 2147483648)))) (λ (o : Option Value). o ≡ Some (Var x) → (r < 2147483648) ×
    (slice_get slots r ≡ Some (slot.Var x))) (λ e k. absurd (cc k)) (λ e k. absurd (cc k)) h
place_of_var slots (suc n) r x h =
    cond_both (nat_lt r 2147483648) (slot_value (value_at slots n) slots r (slice_get slots r)) (Some (leaf (label_at (r - 2147483648))))
    (λ (o : Option Value). o ≡ Some (Var x) → (r < 2147483648) × (slice_get slots r ≡ Some (slot.Var x)))
    (λ e k. (ltb-true r 2147483648 e, var_slot (value_at slots n) slots r (slice_get slots r) x k)) (λ e k. absurd (cc k)) h

pub slots_younger : (slots : List Slot) (ls : List Link) (vars : ℕ) → Fits slots ls vars → (r q : Ref) (m n : ℕ) →
    value_in slots r.0 ≡ Some (Var m) → value_in slots q.0 ≡ Some (Var n) → r.0 < q.0 → m < n
slots_younger slots ls vars b r q m n hr hq lt =
    b.rising r.0 q.0 m n (place_of_var slots (length slots) r.0 m hr).1 (place_of_var slots (length slots) q.0 n hq).1 lt

-- a place where a slot stands
some_within : (slots : List Slot) (i : ℕ) (x : Slot) → slice_get slots i ≡ Some x → i < length slots
some_within [] i x h = absurd (cc h)
some_within (y ∷ slots) zero x h = omega arith
some_within (y ∷ slots) (suc i) x h = omega (arith, some_within slots i x h)

told_within : (go : ℕ → Option Value) (slots : List Slot) (i : ℕ) (v : Value) (o : Option Slot) → slice_get slots i ≡ o →
    slot_value go slots i o ≡ Some v → i < length slots
told_within go slots i v None e h = absurd (cc h)
told_within go slots i v (Some x) e h = some_within slots i x e

get_within : (slots : List Slot) (i : ℕ) (go : ℕ → Option Value) (v : Value) → slot_value go slots i (slice_get slots i) ≡ Some v → i < length slots
get_within slots i go v h = told_within go slots i v (slice_get slots i) refl h

single_label : (k : ℕ) (v : Value) → Some (leaf (label_at k)) ≡ Some v → is_single v ≡ false → ⊥
single_label k v e h = let same : leaf (label_at k) ≡ v = cc in absurd (cc (subst (λ (w : Value). is_single w ≡ false) (sym same) h))

placed_at : (slots : List Slot) (n r : ℕ) (v : Value) → value_at slots n r ≡ Some v → is_single v ≡ false → r < length slots
placed_at slots zero r v h k = cond_both (nat_lt r 2147483648) None (Some (leaf (label_at (r - 2147483648)))) (λ (o : Option Value). o ≡ Some v →
    r < length slots) (λ e j. absurd (cc j)) (λ e j. absurd (single_label (r - 2147483648) v j k)) h
placed_at slots (suc n) r v h k =
    cond_both (nat_lt r 2147483648) (slot_value (value_at slots n) slots r (slice_get slots r)) (Some (leaf (label_at (r - 2147483648))))
    (λ (o : Option Value). o ≡ Some v → r < length slots)
    (λ e j. get_within slots r (value_at slots n) v j) (λ e j. absurd (single_label (r - 2147483648) v j k)) h

pub slots_placed : (slots : List Slot) (r : Ref) (v : Value) → value_in slots r.0 ≡ Some v → is_single v ≡ false → r.0 < length slots
slots_placed slots r v h k = placed_at slots (length slots) r.0 v h k

saves_within : (grows : Bool) (f : Fields) (c l v c' l' v' : ℕ) (ms : List Saved) → c ≤ c' → l ≤ l' → v ≤ v' → Saves grows f c l v ms →
    Saves grows f c' l' v' ms
saves_within grows f c l v c' l' v' [] ac al av h = tt
saves_within grows f c l v c' l' v' (m ∷ ms) ac al av h = (omega (arith, h.0), omega (arith, h.1), omega (arith, h.2), h.3, h.4)

pub saves_drops : (grows : Bool) (f : Fields) (m : Saved) (ms : List Saved) → Stand grows f (m ∷ ms) → Stand grows f ms
saves_drops grows f m ms h = saves_within grows f m.mark.slots m.mark.links m.mark.vars (length f.slots) (length f.log) f.vars ms h.0 h.1 h.2 h.4
