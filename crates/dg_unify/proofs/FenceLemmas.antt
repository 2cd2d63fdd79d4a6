-- Which values have only variables before a fence.
use Rattle.std.proofs.Common.{◌≡◌, ℕ, zero, suc, ◌+◌, ◌-◌, ◌<◌, ◌≤◌, List, [], ◌∷◌, ◌++◌, Bool, true, false, refl, sym, ap, ◌∙◌, arith, subst, Option, Some, None, inl, inr, length, length-append, append-nil, length-take, take, reverse, get_or}
use Rattle.std.specs.Prelude.{eqb, max, nat_lt, nat_le, ◌||◌, if◌then◌else◌}
use Rattle.std.specs.List.{slice_get}
use Rattle.std.proofs.lemmas.Bool.{lt-ltb, or_cases, and_parts, cond_both, cases_lt, ne_eqb, ltb-true, leb-true, lt-leb}
use Rattle.dg_meaning.specs.Values.{Value, Var, Node, Values, NoMore, More, Closure, Unknown, leaf, pair}
use Rattle.dg_meaning.specs.Substitutions.{Substitution, replaced, all_replaced, resolved, contains, any_contains}
use Rattle.dg_meaning.specs.Unify.{top, tops}
use Rattle.dg_meaning.proofs.Walks.{or_false, replaced_absent}
use Rattle.dg_unify.specs.Store.{Store, Saved, or_nil, IsTold}
use Rattle.dg_unify.specs.Slots.{pair_told, captured_slot, captured_in, letters_in, closure_told, word_told, slot_value, label_at, value_at, value_in, subst_of, AreTold, Begins, is_marked, is_constant, Fits, Fields, AreSound, fields_at, Stand}
use Rattle.dg_unify.specs.inside.Ends.{TellsOf, told_in}
use Rattle.dg_unify.specs.Fences.{AreClosed, top_of_bound, IsFenced, stands_between, fence_for_new, fence_for_link}
use Rattle.dg_unify.specs.declared.bindings.Ref.{Ref}
use Rattle.dg_unify.specs.declared.bindings.Mark.{Mark}
use Rattle.dg_unify.specs.declared.slots.Slot.{Slot}
use Rattle.dg_unify.specs.declared.slots.Slot.TheVariants as slot
use Rattle.dg_unify.specs.declared.slots.Link.{Link}
use Rattle.dg_unify.specs.declared.fence.Fence.{Fence}
use Rattle.dg_unify.proofs.Lists.{get_either, reverse_snoc}
use Rattle.dg_unify.proofs.SlotsLemmas.{option_told, some_told, in_more, subst_more, simple_in, told_slot}
use Rattle.dg_unify.proofs.Reading.{part_split, captured_is, was_read, var_read, shows_pair}
use Rattle.dg_unify.proofs.Stores.{Grown}

-- ## A variable that isn't before a fence stands in no value before it

mutual
  below_absent : (n : ℕ) (v : Value) → top v ≤ n → contains n v ≡ false
  below_absent n (Var y) h = ne_eqb y n (λ e. omega (arith, e, h))
  below_absent n (Node f vs) h = all_below_absent n vs h

  all_below_absent : (n : ℕ) (vs : Values) → tops vs ≤ n → any_contains n vs ≡ false
  all_below_absent n NoMore h = refl
  all_below_absent n (More v vs) h = or_false (contains n v) (any_contains n vs) (below_absent n v (omega (arith, h))) (all_below_absent n vs (omega (arith, h)))

mutual
  replaced_below : (n x : ℕ) (u t : Value) → top u ≤ n → top t ≤ n → top (replaced x u t) ≤ n
  replaced_below n x u (Var y) hu ht = cond_both (eqb y x) u (Var y) (λ (w : Value). top w ≤ n) (λ e. hu) (λ e. ht)
  replaced_below n x u (Node f vs) hu ht = all_replaced_below n x u vs hu ht

  all_replaced_below : (n x : ℕ) (u : Value) (vs : Values) → top u ≤ n → tops vs ≤ n → tops (all_replaced x u vs) ≤ n
  all_replaced_below n x u NoMore hu ht = ht
  all_replaced_below n x u (More v vs) hu ht = omega (arith, replaced_below n x u v hu (omega (arith, ht)), all_replaced_below n x u vs hu (omega (arith, ht)))

resolved_below : (n : ℕ) (S : Substitution) → AreClosed n S → (v : Value) → top v ≤ n → top (resolved S v) ≤ n
resolved_below n [] c v h = h
resolved_below n (p ∷ S) c v h =
    let w = resolved_below n S c.1 v h in
    elim (cases_lt p.0 n) [
      | inl lt ↦ replaced_below n p.0 (resolved S p.1) (resolved S v) (resolved_below n S c.1 p.1 (c.0 lt)) w
      | inr ge ↦ rw (replaced_absent p.0 (resolved S p.1) (resolved S v) (below_absent p.0 (resolved S v) (omega (arith, w, ge)))) w
    ]

behind_absent : (n q : ℕ) (S : Substitution) → AreClosed q S → (v : Value) → top v ≤ q → q ≤ n → contains n (resolved S v) ≡ false
behind_absent n q S c v h le = below_absent n (resolved S v) (omega (arith, resolved_below q S c v h, le))

within_closed : (n : ℕ) (S : Substitution) → top_of_bound S ≤ n → AreClosed n S
within_closed n [] h = tt
within_closed n (p ∷ S) h = (λ lt. omega (arith, h), within_closed n S (omega (arith, h)))

-- ## Every value of a store has only variables that are there

some_value : (u v : Value) → Some u ≡ Some v → u ≡ v
some_value u v e = cc

pair_below : (n : ℕ) (a b : Option Value) → ((v : Value) → a ≡ Some v → top v ≤ n) → ((v : Value) → b ≡ Some v → top v ≤ n) → (v : Value) → pair_told a b ≡ Some v → top v ≤ n
pair_below n None b ha hb v e = absurd (cc e)
pair_below n (Some x) None ha hb v e = absurd (cc e)
pair_below n (Some x) (Some y) ha hb v e = subst (λ (w : Value). top w ≤ n) (some_value (pair x y) v e) (omega (arith, ha x refl, hb y refl))

closure_below : (n place : ℕ) (a : Option Values) → ((vs : Values) → a ≡ Some vs → tops vs ≤ n) → (v : Value) → closure_told place a ≡ Some v → top v ≤ n
closure_below n place None h v e = absurd (cc e)
closure_below n place (Some vs) h v e = subst (λ (w : Value). top w ≤ n) (some_value (Node (Closure place) vs) v e) (h vs refl)

word_below : (n : ℕ) (a : Option (List ℕ)) (v : Value) → word_told a ≡ Some v → top v ≤ n
word_below n None v e = absurd (cc e)
word_below n (Some cs) v e = subst (λ (w : Value). top w ≤ n) (some_value (leaf (Unknown cs)) v e) (omega arith)

module _ (slots : List Slot) (vars : ℕ) (below : (i n : ℕ) → slice_get slots i ≡ Some (slot.Var n) → n < vars) where
  abbrev AllBelow : (ℕ → Option Value) → Type 0
  AllBelow go = (r : ℕ) (v : Value) → go r ≡ Some v → top v ≤ vars

  captured_below : (go : ℕ → Option Value) → AllBelow go → (at n : ℕ) (vs : Values) → captured_in go slots at n ≡ Some vs → tops vs ≤ vars
  captured_below go h at zero vs e = let k : NoMore ≡ vs = cc in subst (λ us. tops us ≤ vars) k (omega arith)
  captured_below go h at (suc n) vs e =
      let p = part_split (captured_slot go (slice_get slots at)) (captured_in go slots (suc at) n) vs e in
      let q = captured_is go (slice_get slots at) p.0 p.2 in
      subst (λ us. tops us ≤ vars) (sym p.4) (omega (arith, h q.0.0 p.0 q.2, captured_below go h (suc at) n p.1 p.3))

  slot_below : (go : ℕ → Option Value) → AllBelow go → (at : ℕ) (o : Option Slot) → slice_get slots at ≡ o → (v : Value) → slot_value go slots at o ≡ Some v → top v ≤ vars
  slot_below go h at None is v e = absurd (cc e)
  slot_below go h at (Some (slot.Var n)) is v e = subst (λ (w : Value). top w ≤ vars) (some_value (Var n) v e) (omega (arith, below at n is))
  slot_below go h at (Some (slot.Pair x y k)) is v e = pair_below vars (go x.0) (go y.0) (h x.0) (h y.0) v e
  slot_below go h at (Some (slot.Closure place n)) is v e = closure_below vars place (captured_in go slots (suc at) n) (captured_below go h (suc at) n) v e
  slot_below go h at (Some (slot.Captured r)) is v e = absurd (cc e)
  slot_below go h at (Some (slot.Unknown n)) is v e = word_below vars (letters_in slots (suc at) n) v e
  slot_below go h at (Some (slot.Letter c)) is v e = absurd (cc e)

  value_below : (n : ℕ) → AllBelow (value_at slots n)
  value_below zero r v e =
      cond_both (nat_lt r 2147483648) None (Some (leaf (label_at (r - 2147483648)))) (λ (o : Option Value). o ≡ Some v → top v ≤ vars)
      (λ _ k. absurd (cc k))
      (λ _ k. subst (λ (w : Value). top w ≤ vars) (some_value (leaf (label_at (r - 2147483648))) v k) (omega arith)) e
  value_below (suc n) r v e =
      cond_both (nat_lt r 2147483648) (slot_value (value_at slots n) slots r (slice_get slots r)) (Some (leaf (label_at (r - 2147483648)))) (λ (o : Option Value). o ≡ Some v → top v ≤ vars)
      (λ _ k. slot_below (value_at slots n) (value_below n) r (slice_get slots r) refl v k)
      (λ _ k. subst (λ (w : Value). top w ≤ vars) (some_value (leaf (label_at (r - 2147483648))) v k) (omega arith)) e

  bound_below : (ls : List Link) → AreTold slots ls → top_of_bound (subst_of slots ls) ≤ vars
  bound_below [] h = omega arith
  bound_below (l ∷ ls) h = omega (arith, value_below (length slots) l.to.0 (or_nil (value_in slots l.to.0)) (option_told (value_in slots l.to.0) h.0), bound_below ls h.1)

-- ## More slots say nothing new of the old ones

begins_told : (go : ℕ → Option Value) (slots : List Slot) (at : ℕ) (x : Slot) (v : Value) → slot_value go slots at (Some x) ≡ Some v → Begins x
begins_told go slots at (slot.Var n) v e = tt
begins_told go slots at (slot.Pair x y k) v e = tt
begins_told go slots at (slot.Closure place n) v e = tt
begins_told go slots at (slot.Captured r) v e = absurd (cc e)
begins_told go slots at (slot.Unknown n) v e = tt
begins_told go slots at (slot.Letter c) v e = absurd (cc e)

old_value : (slots extra : List Slot) (ls : List Link) (vars : ℕ) → Fits slots ls vars → (r : ℕ) (v : Value) → r < length slots → value_in (slots ++ extra) r ≡ Some v → value_in slots r ≡ Some v
old_value slots extra ls vars b r v lt h =
    let all = slots ++ extra in
    let t = told_slot all (length all) r (some_told (value_in all r) v h) (omega (arith, lt, b.room)) in
    let begins = begins_told (value_at all t.m) all r t.x v (sym t.is ∙ h) in
    elim (get_either slots extra r t.x t.get) [
      | inl e ↦
          let told = option_told (value_in slots r) (b.whole r t.x e begins) in
          told ∙ sym (in_more slots extra r (or_nil (value_in slots r)) told) ∙ h
      | inr e ↦ absurd (omega (arith, e.1, lt))
    ]

-- ## Where a fence may stand

-- behind everything
fenced_now : (slots : List Slot) (ls : List Link) (vars : ℕ) (fence : Fence) → Fits slots ls vars → fence ≡ record { slots = length slots; vars = vars; reach = vars } → IsFenced slots ls vars fence
fenced_now slots ls vars fence b is =
    let within = bound_below slots vars b.below ls b.told in
    rw is (record {
      slots_in = omega arith;
      vars_in = omega arith;
      values = λ r v lt h. value_below slots vars b.below (length slots) r v h;
      closed = within_closed vars (subst_of slots ls) within;
      further = omega arith;
      within = within;
    })

-- where it stood before there were more slots and variables
fenced_more : (slots extra : List Slot) (ls : List Link) (vars vars' : ℕ) (fence : Fence) → Fits slots ls vars → vars ≤ vars' → IsFenced slots ls vars fence → IsFenced (slots ++ extra) ls vars' fence
fenced_more slots extra ls vars vars' fence b le f = record {
  slots_in = omega (arith, length-append slots extra, f.slots_in);
  vars_in = omega (arith, f.vars_in, le);
  values = λ r v lt h. f.values r v lt (old_value slots extra ls vars b r v (omega (arith, lt, f.slots_in)) h);
  closed = rw (subst_more slots extra ls b.told) f.closed;
  further = f.further;
  within = rw (subst_more slots extra ls b.told) f.within;
}

-- where one more variable is made
fenced_new : (slots extra : List Slot) (ls : List Link) (vars vars' : ℕ) (fence now : Fence) → Fits slots ls vars → vars ≤ vars' → now ≡ record { slots = length slots; vars = vars; reach = vars } → IsFenced slots ls vars fence → IsFenced (slots ++ extra) ls vars' (fence_for_new fence now)
fenced_new slots extra ls vars vars' fence now b le is f =
    fenced_more slots extra ls vars vars' (fence_for_new fence now) b le
    (cond_both (eqb (now.slots - fence.slots) (now.vars - fence.vars)) fence now (IsFenced slots ls vars) (λ e. f) (λ e. fenced_now slots ls vars now b is))

-- behind one more binding: of a variable behind it, or to a value before it
link_kept : (slots : List Slot) (ls : List Link) (vars : ℕ) (fence : Fence) (l : Link) (t : ℕ) → top (or_nil (value_in slots l.to.0)) ≤ t → (nat_le fence.vars l.var || nat_le t fence.vars) ≡ true → IsFenced slots ls vars fence → IsFenced slots (l ∷ ls) vars (record fence { reach = max fence.reach t })
link_kept slots ls vars fence l t le is f = record {
  slots_in = f.slots_in;
  vars_in = f.vars_in;
  values = f.values;
  closed = (λ lt. elim (or_cases (nat_le fence.vars l.var) (nat_le t fence.vars) is) [ inl e ↦ absurd (omega (arith, lt, leb-true fence.vars l.var e)) | inr e ↦ omega (arith, le, leb-true t fence.vars e) ], f.closed);
  further = omega (arith, f.further);
  within = omega (arith, f.within, le);
}

-- behind one more binding, for which more variables come before it
link_moved : (slots : List Slot) (ls : List Link) (vars : ℕ) (fence : Fence) (l : Link) (t : ℕ) → top (or_nil (value_in slots l.to.0)) ≤ t → max fence.reach t < vars → IsFenced slots ls vars fence → IsFenced slots (l ∷ ls) vars (record { slots = fence.slots; vars = max fence.reach t; reach = max fence.reach t })
link_moved slots ls vars fence l t le lt f =
    let within : top_of_bound (subst_of slots (l ∷ ls)) ≤ max fence.reach t = omega (arith, f.within, le) in
    record {
      slots_in = f.slots_in;
      vars_in = omega (arith, lt);
      values = λ r v r_in h. omega (arith, f.values r v r_in h, f.further);
      closed = within_closed (max fence.reach t) (subst_of slots (l ∷ ls)) within;
      further = omega arith;
      within = within;
    }

fenced_link : (slots : List Slot) (ls : List Link) (vars : ℕ) (fence now : Fence) (l : Link) (t : ℕ) → Fits slots (l ∷ ls) vars → top (or_nil (value_in slots l.to.0)) ≤ t → now ≡ record { slots = length slots; vars = vars; reach = vars } → IsFenced slots ls vars fence → IsFenced slots (l ∷ ls) vars (fence_for_link fence l.var t now)
fenced_link slots ls vars fence now l t b le is f =
    let r = max fence.reach t in
    let moved : Fence = record { slots = fence.slots; vars = r; reach = r } in
    let same : now.vars ≡ vars = ap (λ (k : Fence). k.vars) is in
    cond_both (nat_le fence.vars l.var || nat_le t fence.vars) (record fence { reach = r }) (if nat_lt r now.vars then moved else now) (IsFenced slots (l ∷ ls) vars)
    (λ e. link_kept slots ls vars fence l t le e f)
    (λ _. cond_both (nat_lt r now.vars) moved now (IsFenced slots (l ∷ ls) vars)
    (λ e. link_moved slots ls vars fence l t le (omega (arith, ltb-true r now.vars e, same)) f)
    (λ _. fenced_now slots (l ∷ ls) vars now b is))

-- ## A number above each variable of a value

module _ (f : Fields) (sound : AreSound f) (at : Ref) (told : TellsOf f at) where
  pub top_all : top (told_in f at) ≤ f.vars
  top_all = value_below f.slots f.vars sound.fits.below (length f.slots) at.0 (told_in f at) (option_told (value_in f.slots at.0) told)

  pub top_var : at.0 < 2147483648 → (x : Slot) → x ≡ get_or f.slots at.0 x → (n : ℕ) → x ≡ slot.Var n → top (told_in f at) ≤ n + 1
  top_var lt x read n is = let e : told_in f at ≡ Var n = ap or_nil (var_read f sound at told lt x read n is).0 in rw e (omega arith)

  pub pair_tells : at.0 < 2147483648 → (x : Slot) → x ≡ get_or f.slots at.0 x → (h t : Ref) (k : Bool) → x ≡ slot.Pair h t k → TellsOf f h × TellsOf f t
  pair_tells lt x read h t k is =
      let p = shows_pair f sound at told lt x read h t k is true in
      (some_told (value_in f.slots h.0) p.head p.head_is, some_told (value_in f.slots t.0) p.tail p.tail_is)

  pub top_pair : at.0 < 2147483648 → (x : Slot) → x ≡ get_or f.slots at.0 x → (h t : Ref) (k : Bool) → x ≡ slot.Pair h t k → (m n : ℕ) → top (told_in f h) ≤ m → top (told_in f t) ≤ n → top (told_in f at) ≤ max m n
  top_pair lt x read h t k is m n hm hn =
      let p = shows_pair f sound at told lt x read h t k is true in
      let eh : told_in f h ≡ p.head = ap or_nil p.head_is in
      let et : told_in f t ≡ p.tail = ap or_nil p.tail_is in
      rw p.is (omega (arith, ap top eh, ap top et, hm, hn))

-- ## The same, with all that a store keeps

abbrev pub Stays : Fields → Fence → Type 0
Stays f fence = IsFenced f.slots (reverse f.log) f.vars fence

abbrev pub end_of : Fields → Fence
end_of f = record { slots = length f.slots; vars = f.vars; reach = f.vars }

pub fence_kept : (f f' : Fields) (extra : List Slot) (fence : Fence) → AreSound f → Grown f f' extra [] → f.vars ≤ f'.vars → Stays f fence → Stays f' fence
fence_kept f f' extra fence sound g le h =
    let e : f'.log ≡ f.log = g.log ∙ append-nil f.log in
    rw (g.slots, e) (fenced_more f.slots extra (reverse f.log) f.vars f'.vars fence sound.fits le h)

pub fence_made : (f f' : Fields) (extra : List Slot) (fence now next : Fence) → AreSound f → Grown f f' extra [] → f.vars ≤ f'.vars → now ≡ end_of f → next ≡ fence_for_new fence now → Stays f fence → Stays f' next
fence_made f f' extra fence now next sound g le is chosen h =
    let e : f'.log ≡ f.log = g.log ∙ append-nil f.log in
    rw (g.slots, e, chosen) (fenced_new f.slots extra (reverse f.log) f.vars f'.vars fence now sound.fits le is h)

pub fence_linked : (f f' : Fields) (fence now next : Fence) (l : Link) (t : ℕ) → AreSound f' → Grown f f' [] (l ∷ []) → f'.vars ≡ f.vars → top (told_in f l.to) ≤ t → now ≡ end_of f' → next ≡ fence_for_link fence l.var t now → Stays f fence → Stays f' next
fence_linked f f' fence now next l t sound g ev le is chosen h =
    let es : f'.slots ≡ f.slots = g.slots ∙ append-nil f.slots in
    let el : reverse f'.log ≡ l ∷ reverse f.log = ap reverse g.log ∙ reverse_snoc f.log l in
    let old : IsFenced f'.slots (reverse f.log) f'.vars fence = rw (es, ev) h in
    let fits : Fits f'.slots (l ∷ reverse f.log) f'.vars = rw el at sound.fits in
    let top_in : top (or_nil (value_in f'.slots l.to.0)) ≤ t = rw es le in
    rw (el, chosen) (fenced_link f'.slots (reverse f.log) f'.vars fence now l t fits top_in is old)

fence_moved : (f : Fields) (fence : Fence) → AreSound f → fence ≡ end_of f → Stays f fence
fence_moved f fence sound is = fenced_now f.slots (reverse f.log) f.vars fence sound.fits is

-- behind all that was there at a mark
pub fence_undone : (f f' : Fields) (to : Mark) (s : Store) (ms : List Saved) → f' ≡ fields_at f to → Stand true f (record { mark = to; store = s } ∷ ms) → Stays f' (record { slots = to.slots; vars = to.vars; reach = to.vars })
fence_undone f f' to s ms e h =
    let n : length (take to.slots f.slots) ≡ to.slots = omega (arith, length-take to.slots f.slots, h.0) in
    let is : record { slots = to.slots; vars = to.vars; reach = to.vars } ≡ end_of (fields_at f to) = rw n refl in
    subst (λ k. Stays k (record { slots = to.slots; vars = to.vars; reach = to.vars })) (sym e) (fence_moved (fields_at f to) (record { slots = to.slots; vars = to.vars; reach = to.vars }) h.3.sound is)

-- ## A value without variables

module _ (slots : List Slot) (marks : (i : ℕ) (h t : Ref) → slice_get slots i ≡ Some (slot.Pair h t true) → (is_constant slots h ≡ true) × (is_constant slots t ≡ true)) where
  abbrev ConstantsBelow : (ℕ → Option Value) → Type 0
  ConstantsBelow go = (r : Ref) (v : Value) → is_constant slots r ≡ true → go r.0 ≡ Some v → top v ≤ 0

  constant_pair : (go : ℕ → Option Value) → ConstantsBelow go → (at : ℕ) (x y : Ref) (k : Bool) → k ≡ true → slice_get slots at ≡ Some (slot.Pair x y k) → (v : Value) → pair_told (go x.0) (go y.0) ≡ Some v → top v ≤ 0
  constant_pair go h at x y k set is v e =
      let c = marks at x y (is ∙ ap (λ b. Some (slot.Pair x y b)) set) in
      pair_below 0 (go x.0) (go y.0) (λ u. h x u c.0) (λ u. h y u c.1) v e

  constant_slot : (go : ℕ → Option Value) → ConstantsBelow go → (at : ℕ) (o : Option Slot) → slice_get slots at ≡ o → is_marked o ≡ true → (v : Value) → slot_value go slots at o ≡ Some v → top v ≤ 0
  constant_slot go h at None is m v e = absurd (cc e)
  constant_slot go h at (Some (slot.Var n)) is m v e = absurd (cc m)
  constant_slot go h at (Some (slot.Pair x y k)) is m v e = constant_pair go h at x y k m is v e
  constant_slot go h at (Some (slot.Closure place n)) is m v e = absurd (cc m)
  constant_slot go h at (Some (slot.Captured r)) is m v e = absurd (cc m)
  constant_slot go h at (Some (slot.Unknown n)) is m v e = absurd (cc m)
  constant_slot go h at (Some (slot.Letter c)) is m v e = absurd (cc m)

  simple_below : (n : ℕ) (r : Ref) (v : Value) → 2147483648 ≤ r.0 → value_at slots n r.0 ≡ Some v → top v ≤ 0
  simple_below n r v ge e = subst (λ (w : Value). top w ≤ 0) (some_value (leaf (label_at (r.0 - 2147483648))) v (sym (simple_in slots r.0 n ge) ∙ e)) (omega arith)

  marked_is : (r : Ref) → r.0 < 2147483648 → is_constant slots r ≡ true → is_marked (slice_get slots r.0) ≡ true
  marked_is r lt h = sym (ap (λ b. b || is_marked (slice_get slots r.0)) (lt-leb 2147483648 r.0 lt)) ∙ h

  constant_below : (n : ℕ) → ConstantsBelow (value_at slots n)
  constant_below zero r v h e =
      elim (cases_lt r.0 2147483648) [
        | inl lt ↦ let k : None ≡ Some v = rw (lt-ltb r.0 2147483648 lt) at e in absurd (cc k)
        | inr ge ↦ simple_below 0 r v ge e
      ]
  constant_below (suc n) r v h e =
      elim (cases_lt r.0 2147483648) [
        | inl lt ↦ constant_slot (value_at slots n) (constant_below n) r.0 (slice_get slots r.0) refl (marked_is r lt h) v (rw (lt-ltb r.0 2147483648 lt) at e)
        | inr ge ↦ simple_below (suc n) r v ge e
      ]

none_closed : (S : Substitution) → AreClosed 0 S
none_closed [] = tt
none_closed (p ∷ S) = (λ lt. absurd (omega (arith, lt)), none_closed S)

pub constant_absent : (slots : List Slot) (ls : List Link) (vars : ℕ) → Fits slots ls vars → (n : ℕ) (at : Ref) → IsTold (value_in slots at.0) → is_constant slots at ≡ true → contains n (resolved (subst_of slots ls) (or_nil (value_in slots at.0))) ≡ false
constant_absent slots ls vars b n at told is =
    let v = or_nil (value_in slots at.0) in
    behind_absent n 0 (subst_of slots ls) (none_closed (subst_of slots ls)) v (constant_below slots b.constant (length slots) at v is (option_told (value_in slots at.0) told)) (omega arith)

pub top_constant : (f : Fields) → AreSound f → (at : Ref) → TellsOf f at → is_constant f.slots at ≡ true → top (told_in f at) ≤ 0
top_constant f sound at told is = constant_below f.slots sound.fits.constant (length f.slots) at (told_in f at) is (option_told (value_in f.slots at.0) told)

-- ## What stands on either side of a fence

pub between_absent : (slots : List Slot) (ls : List Link) (vars : ℕ) (fence : Fence) → IsFenced slots ls vars fence → (n : ℕ) (at : Ref) → IsTold (value_in slots at.0) → stands_between fence at n ≡ true → contains n (resolved (subst_of slots ls) (or_nil (value_in slots at.0))) ≡ false
between_absent slots ls vars fence f n at told is =
    let k = and_parts (nat_lt at.0 fence.slots) (nat_le fence.vars n) is in
    let v = or_nil (value_in slots at.0) in
    behind_absent n fence.vars (subst_of slots ls) f.closed v (f.values at.0 v (ltb-true at.0 fence.slots k.0) (option_told (value_in slots at.0) told)) (leb-true fence.vars n k.1)

-- ## Whether a value is marked

other_unmarked : (x : Slot) → ((h t : Ref) (k : Bool) → x ≡ slot.Pair h t k → ⊥) → is_marked (Some x) ≡ false
other_unmarked (slot.Var n) h = refl
other_unmarked (slot.Pair a b k) h = absurd (h a b k refl)
other_unmarked (slot.Closure place n) h = refl
other_unmarked (slot.Captured r) h = refl
other_unmarked (slot.Unknown n) h = refl
other_unmarked (slot.Letter c) h = refl

module _ (f : Fields) (sound : AreSound f) (at : Ref) (told : TellsOf f at) (lt : at.0 < 2147483648) (x : Slot) (read : x ≡ get_or f.slots at.0 x) where
  marked_read : is_constant f.slots at ≡ is_marked (Some x)
  marked_read = ap (λ b. b || is_marked (slice_get f.slots at.0)) (lt-leb 2147483648 at.0 lt) ∙ ap is_marked (was_read f sound at told lt x read).get

  pub constant_read : (h t : Ref) (k : Bool) → x ≡ slot.Pair h t k → k ≡ is_constant f.slots at
  constant_read h t k is = sym (marked_read ∙ ap (λ y. is_marked (Some y)) is)

  pub other_read : ((h t : Ref) (k : Bool) → x ≡ slot.Pair h t k → ⊥) → false ≡ is_constant f.slots at
  other_read other = sym (marked_read ∙ other_unmarked x other)
