-- What is read from the slots and bindings of a store.
use Rattle.std.proofs.Common.{◌≡◌, ℕ, zero, suc, ◌+◌, ◌-◌, ◌<◌, ◌≤◌, List, [], ◌∷◌, Bool, refl, sym, ap, ◌∙◌, arith, subst, Option, Some, None, inl, inr, length, reverse, get_or}
use Rattle.std.specs.Prelude.{nat_lt, if◌then◌else◌}
use Rattle.std.specs.List.{slice_get}
use Rattle.std.proofs.lemmas.Bool.{cond_both, cases_lt}
use Rattle.std.proofs.lemmas.Option.{slice_get_within, slice_get_past}
use Rattle.dg_meaning.specs.Values.{Num, Word, Unknown, Object, Nil, Closure, Value, Var, Node, Values, NoMore, More, leaf, pair}
use Rattle.dg_meaning.specs.Substitutions.{walk, links}
use Rattle.dg_meaning.proofs.LookUps.{walk_node, walk_free}
use Rattle.dg_unify.specs.Store.{or_nil, IsTold, count_of, part_at, IsPart, IsClosureAt, IsUnknownAt, ShowsVar, ShowsPair, ShowsClosure, ShowsUnknown}
use Rattle.dg_unify.specs.Links.{to_of}
use Rattle.dg_unify.specs.Slots.{pair_told, and_part, and_letter, captured_of, captured_slot, letter_slot, captured_in, letters_in, closure_told, word_told, slot_value, label_at, value_at, value_in, Fields, AreSound, store_of}
use Rattle.dg_unify.specs.inside.Ends.{subst_in, TellsOf, told_in, IsEnd, Leads}
use Rattle.dg_unify.specs.Laws.{place_of_var}
use Rattle.dg_unify.specs.declared.bindings.Ref.{Ref}
use Rattle.dg_unify.specs.declared.slots.Slot.{Slot}
use Rattle.dg_unify.specs.declared.slots.Slot.TheVariants as slot
use Rattle.dg_unify.proofs.SlotsLemmas.{some_told, told_to, none_is_unbound, looks_to, told_slot, simple_in, read_is, deeper}

-- ## Parts of slots

both_told : (a b : Option Value) → IsTold (pair_told a b) → (h : Value) × (t : Value) × (a ≡ Some h) × (b ≡ Some t)
both_told None b k = absurd k
both_told (Some h) None k = absurd k
both_told (Some h) (Some t) k = (h, t, refl, refl)

both_are : (a b : Option Value) (h t : Value) → a ≡ Some h → b ≡ Some t → pair_told a b ≡ Some (pair h t)
both_are a b h t ea eb = rw (ea, eb) refl

closure_parts : (place : ℕ) (a : Option Values) → IsTold (closure_told place a) → (vs : Values) × (a ≡ Some vs)
closure_parts place None k = absurd k
closure_parts place (Some vs) k = (vs, refl)

word_letters : (a : Option (List ℕ)) → IsTold (word_told a) → (cs : List ℕ) × (a ≡ Some cs)
word_letters None k = absurd k
word_letters (Some cs) k = (cs, refl)

pub part_split : (a : Option Value) (b : Option Values) (vs : Values) → and_part a b ≡ Some vs → (v : Value) × (ws : Values) × (a ≡ Some v) × (b ≡ Some ws) × (vs ≡ More v ws)
part_split None b vs h = absurd (cc h)
part_split (Some v) None vs h = absurd (cc h)
part_split (Some v) (Some ws) vs h = (v, ws, refl, refl, cc)

letter_split : (a : Option ℕ) (b : Option (List ℕ)) (cs : List ℕ) → and_letter a b ≡ Some cs → (c : ℕ) × (ds : List ℕ) × (a ≡ Some c) × (b ≡ Some ds) × (cs ≡ c ∷ ds)
letter_split None b cs h = absurd (cc h)
letter_split (Some c) None cs h = absurd (cc h)
letter_split (Some c) (Some ds) cs h = (c, ds, refl, refl, cc)

pub captured_count : (go : ℕ → Option Value) (slots : List Slot) (at n : ℕ) (vs : Values) → captured_in go slots at n ≡ Some vs → count_of vs ≡ n
captured_count go slots at zero vs h = let e : NoMore ≡ vs = cc in ap count_of (sym e)
captured_count go slots at (suc n) vs h =
    let p = part_split (captured_slot go (slice_get slots at)) (captured_in go slots (suc at) n) vs h in
    ap count_of p.4 ∙ ap suc (captured_count go slots (suc at) n p.1 p.3)

pub letters_count : (slots : List Slot) (at n : ℕ) (cs : List ℕ) → letters_in slots at n ≡ Some cs → length cs ≡ n
letters_count slots at zero cs h = let e : [] ≡ cs = cc in ap length (sym e)
letters_count slots at (suc n) cs h =
    let p = letter_split (letter_slot (slice_get slots at)) (letters_in slots (suc at) n) cs h in
    ap length p.4 ∙ ap suc (letters_count slots (suc at) n p.1 p.3)

pub no_part : (i : ℕ) (vs : Values) → count_of vs ≤ i → part_at i vs ≡ None
no_part i NoMore le = refl
no_part zero (More v vs) le = absurd (omega arith)
no_part (suc i) (More v vs) le = no_part i vs (omega arith)

pub captured_is : (go : ℕ → Option Value) (o : Option Slot) (v : Value) → captured_slot go o ≡ Some v → (q : Ref) × (o ≡ Some (slot.Captured q)) × (go q.0 ≡ Some v)
captured_is go None v h = absurd (cc h)
captured_is go (Some (slot.Captured r)) v h = (r, refl, h)
captured_is go (Some (slot.Var n)) v h = absurd (cc h)
captured_is go (Some (slot.Pair x y k)) v h = absurd (cc h)
captured_is go (Some (slot.Closure p n)) v h = absurd (cc h)
captured_is go (Some (slot.Unknown n)) v h = absurd (cc h)
captured_is go (Some (slot.Letter c)) v h = absurd (cc h)

letter_is : (o : Option Slot) (c : ℕ) → letter_slot o ≡ Some c → o ≡ Some (slot.Letter c)
letter_is None c h = absurd (cc h)
letter_is (Some (slot.Letter d)) c h = let e : d ≡ c = cc in ap (λ k. Some (slot.Letter k)) e
letter_is (Some (slot.Var n)) c h = absurd (cc h)
letter_is (Some (slot.Pair x y k)) c h = absurd (cc h)
letter_is (Some (slot.Closure p n)) c h = absurd (cc h)
letter_is (Some (slot.Unknown n)) c h = absurd (cc h)
letter_is (Some (slot.Captured r)) c h = absurd (cc h)

-- a captured value stands in its slot
pub record CapturedAt (go : ℕ → Option Value) (slots : List Slot) (place i : ℕ) (vs : Values) : Type 0 where
  pub q : Ref
  pub v : Value
  pub get : slice_get slots place ≡ Some (slot.Captured q)
  pub part : part_at i vs ≡ Some v
  pub value : go q.0 ≡ Some v

pub captured_part : (go : ℕ → Option Value) (slots : List Slot) (at n i : ℕ) (vs : Values) → captured_in go slots at n ≡ Some vs → i < n → (place : ℕ) → place ≡ at + i → CapturedAt go slots place i vs
captured_part go slots at zero i vs h lt place is = absurd (omega arith)
captured_part go slots at (suc n) zero vs h lt place is =
    let p = part_split (captured_slot go (slice_get slots at)) (captured_in go slots (suc at) n) vs h in
    let q = captured_is go (slice_get slots at) p.0 p.2 in
    let e : place ≡ at = omega arith in
    record { q = q.0; v = p.0; get = rw e q.1; part = ap (part_at 0) p.4; value = q.2 }
captured_part go slots at (suc n) (suc i) vs h lt place is =
    let p = part_split (captured_slot go (slice_get slots at)) (captured_in go slots (suc at) n) vs h in
    let r = captured_part go slots (suc at) n i p.1 p.3 (omega arith) place (omega arith) in
    record { q = r.q; v = r.v; get = r.get; part = ap (part_at (suc i)) p.4 ∙ r.part; value = r.value }

pub letter_part : (slots : List Slot) (at n i : ℕ) (cs : List ℕ) → letters_in slots at n ≡ Some cs → i < n → (place : ℕ) → place ≡ at + i → (c : ℕ) × (slice_get slots place ≡ Some (slot.Letter c)) × (slice_get cs i ≡ Some c)
letter_part slots at zero i cs h lt place is = absurd (omega arith)
letter_part slots at (suc n) zero cs h lt place is =
    let p = letter_split (letter_slot (slice_get slots at)) (letters_in slots (suc at) n) cs h in
    let e : place ≡ at = omega arith in
    (p.0, rw e (letter_is (slice_get slots at) p.0 p.2), ap (λ xs. slice_get xs 0) p.4)
letter_part slots at (suc n) (suc i) cs h lt place is =
    let p = letter_split (letter_slot (slice_get slots at)) (letters_in slots (suc at) n) cs h in
    let r = letter_part slots (suc at) n i p.1 p.3 (omega arith) place (omega arith) in
    (r.0, r.1, ap (λ xs. slice_get xs (suc i)) p.4 ∙ r.2)

-- ## Where a closure or an unknown word stands

no_closure : (k place : ℕ) (vs : Values) → leaf (label_at k) ≡ Node (Closure place) vs → ⊥
no_closure k place vs =
    cond_both (nat_lt k 65536) (Num k) (if nat_lt k 131072 then Word (k - 65536) else (if nat_lt k 196608 then Object (k - 131072) else Nil)) (λ f. leaf f ≡ Node (Closure place) vs → ⊥) (λ e h. cc h)
    (λ e.
    cond_both (nat_lt k 131072) (Word (k - 65536)) (if nat_lt k 196608 then Object (k - 131072) else Nil) (λ f. leaf f ≡ Node (Closure place) vs → ⊥) (λ e h. cc h)
    (λ e. cond_both (nat_lt k 196608) (Object (k - 131072)) Nil (λ f. leaf f ≡ Node (Closure place) vs → ⊥) (λ e h. cc h) (λ e h. cc h)))

no_word : (k : ℕ) (cs : List ℕ) → leaf (label_at k) ≡ leaf (Unknown cs) → ⊥
no_word k cs =
    cond_both (nat_lt k 65536) (Num k) (if nat_lt k 131072 then Word (k - 65536) else (if nat_lt k 196608 then Object (k - 131072) else Nil)) (λ f. leaf f ≡ leaf (Unknown cs) → ⊥) (λ e h. cc h)
    (λ e.
    cond_both (nat_lt k 131072) (Word (k - 65536)) (if nat_lt k 196608 then Object (k - 131072) else Nil) (λ f. leaf f ≡ leaf (Unknown cs) → ⊥) (λ e h. cc h)
    (λ e. cond_both (nat_lt k 196608) (Object (k - 131072)) Nil (λ f. leaf f ≡ leaf (Unknown cs) → ⊥) (λ e h. cc h) (λ e h. cc h)))

pair_no_closure : (a b : Option Value) (place : ℕ) (vs : Values) → pair_told a b ≡ Some (Node (Closure place) vs) → ⊥
pair_no_closure None b place vs h = cc h
pair_no_closure (Some x) None place vs h = cc h
pair_no_closure (Some x) (Some y) place vs h = cc h

pair_no_word : (a b : Option Value) (cs : List ℕ) → pair_told a b ≡ Some (leaf (Unknown cs)) → ⊥
pair_no_word None b cs h = cc h
pair_no_word (Some x) None cs h = cc h
pair_no_word (Some x) (Some y) cs h = cc h

word_no_closure : (a : Option (List ℕ)) (place : ℕ) (vs : Values) → word_told a ≡ Some (Node (Closure place) vs) → ⊥
word_no_closure None place vs h = cc h
word_no_closure (Some x) place vs h = cc h

closure_no_word : (place : ℕ) (a : Option Values) (cs : List ℕ) → closure_told place a ≡ Some (leaf (Unknown cs)) → ⊥
closure_no_word place None cs h = cc h
closure_no_word place (Some x) cs h = cc h

closure_same : (place place' : ℕ) (a : Option Values) (vs : Values) → closure_told place a ≡ Some (Node (Closure place') vs) → (place ≡ place') × (a ≡ Some vs)
closure_same place place' None vs h = absurd (cc h)
closure_same place place' (Some us) vs h = let e : Node (Closure place) us ≡ Node (Closure place') vs = cc in (let k : Closure place ≡ Closure place' = cc in cc, let k : us ≡ vs = cc in ap Some k)

word_same : (a : Option (List ℕ)) (cs : List ℕ) → word_told a ≡ Some (leaf (Unknown cs)) → a ≡ Some cs
word_same None cs h = absurd (cc h)
word_same (Some ds) cs h = let e : leaf (Unknown ds) ≡ leaf (Unknown cs) = cc in let k : Unknown ds ≡ Unknown cs = cc in let l : ds ≡ cs = cc in ap Some l

closure_slot_is : (go : ℕ → Option Value) (slots : List Slot) (at : ℕ) (x : Slot) (place : ℕ) (vs : Values) → slot_value go slots at (Some x) ≡ Some (Node (Closure place) vs) → (n : ℕ) × (x ≡ slot.Closure place n) × (captured_in go slots (suc at) n ≡ Some vs)
closure_slot_is go slots at (slot.Var k) place vs h = absurd (cc h)
closure_slot_is go slots at (slot.Pair a b k) place vs h = absurd (pair_no_closure (go a.0) (go b.0) place vs h)
closure_slot_is go slots at (slot.Closure p n) place vs h = let r = closure_same p place (captured_in go slots (suc at) n) vs h in (n, ap (λ k. slot.Closure k n) r.0, r.1)
closure_slot_is go slots at (slot.Captured r) place vs h = absurd (cc h)
closure_slot_is go slots at (slot.Unknown n) place vs h = absurd (word_no_closure (letters_in slots (suc at) n) place vs h)
closure_slot_is go slots at (slot.Letter c) place vs h = absurd (cc h)

word_slot_is : (go : ℕ → Option Value) (slots : List Slot) (at : ℕ) (x : Slot) (cs : List ℕ) → slot_value go slots at (Some x) ≡ Some (leaf (Unknown cs)) → (n : ℕ) × (x ≡ slot.Unknown n) × (letters_in slots (suc at) n ≡ Some cs)
word_slot_is go slots at (slot.Var k) cs h = absurd (cc h)
word_slot_is go slots at (slot.Pair a b k) cs h = absurd (pair_no_word (go a.0) (go b.0) cs h)
word_slot_is go slots at (slot.Closure p n) cs h = absurd (closure_no_word p (captured_in go slots (suc at) n) cs h)
word_slot_is go slots at (slot.Captured r) cs h = absurd (cc h)
word_slot_is go slots at (slot.Unknown n) cs h = (n, refl, word_same (letters_in slots (suc at) n) cs h)
word_slot_is go slots at (slot.Letter c) cs h = absurd (cc h)

-- a closure's slot, and its captured values
pub record ClosureIn (slots : List Slot) (r place : ℕ) (vs : Values) : Type 0 where
  pub n : ℕ
  pub get : slice_get slots r ≡ Some (slot.Closure place n)
  pub m : ℕ
  pub le : m ≤ length slots
  pub captured : captured_in (value_at slots m) slots (suc r) n ≡ Some vs

pub closure_in : (slots : List Slot) (r place : ℕ) (vs : Values) → value_in slots r ≡ Some (Node (Closure place) vs) → ClosureIn slots r place vs
closure_in slots r place vs h =
    elim (cases_lt r 2147483648) [
      | inl lt ↦
          let c = told_slot slots (length slots) r (some_told (value_in slots r) (Node (Closure place) vs) h) lt in
          let k = closure_slot_is (value_at slots c.m) slots r c.x place vs (sym c.is ∙ h) in
          record { n = k.0; get = c.get ∙ ap Some k.1; m = c.m; le = c.le; captured = k.2 }
      | inr ge ↦ absurd (no_closure (r - 2147483648) place vs (let k : Some (leaf (label_at (r - 2147483648))) ≡ Some (Node (Closure place) vs) = sym (simple_in slots r (length slots) ge) ∙ h in cc))
    ]

pub record WordIn (slots : List Slot) (r : ℕ) (cs : List ℕ) : Type 0 where
  pub n : ℕ
  pub get : slice_get slots r ≡ Some (slot.Unknown n)
  pub letters : letters_in slots (suc r) n ≡ Some cs

pub word_in : (slots : List Slot) (r : ℕ) (cs : List ℕ) → value_in slots r ≡ Some (leaf (Unknown cs)) → WordIn slots r cs
word_in slots r cs h =
    elim (cases_lt r 2147483648) [
      | inl lt ↦
          let c = told_slot slots (length slots) r (some_told (value_in slots r) (leaf (Unknown cs)) h) lt in
          let k = word_slot_is (value_at slots c.m) slots r c.x cs (sym c.is ∙ h) in
          record { n = k.0; get = c.get ∙ ap Some k.1; letters = k.2 }
      | inr ge ↦ absurd (no_word (r - 2147483648) cs (let k : Some (leaf (label_at (r - 2147483648))) ≡ Some (leaf (Unknown cs)) = sym (simple_in slots r (length slots) ge) ∙ h in cc))
    ]

-- ## What a call of a store reads there

module _ (f : Fields) (sound : AreSound f) where
  module _ (at : Ref) (told : TellsOf f at) where
    pub within_slots : at.0 < 2147483648 → at.0 < length f.slots
    within_slots lt = let c = told_slot f.slots (length f.slots) at.0 told lt in slice_get_within f.slots at.0 c.x c.get

    pub simple_told : 2147483648 ≤ at.0 → told_in f at ≡ leaf (label_at (at.0 - 2147483648))
    simple_told le = ap or_nil (simple_in f.slots at.0 (length f.slots) le)

    pub simple_end : 2147483648 ≤ at.0 → IsEnd f at
    simple_end le = let e = simple_told le in ap (walk (subst_in f)) e ∙ walk_node (subst_in f) (label_at (at.0 - 2147483648)) NoMore ∙ sym e

    -- what was read is the slot, and what it stands for
    pub record Read (x : Slot) : Type 0 where
      pub get : slice_get f.slots at.0 ≡ Some x
      pub m : ℕ
      pub le : m ≤ length f.slots
      pub is : value_in f.slots at.0 ≡ slot_value (value_at f.slots m) f.slots at.0 (Some x)
      pub tells : IsTold (slot_value (value_at f.slots m) f.slots at.0 (Some x))

    pub was_read : at.0 < 2147483648 → (x : Slot) → x ≡ get_or f.slots at.0 x → Read x
    was_read lt x read =
        let c = told_slot f.slots (length f.slots) at.0 told lt in
        let e : x ≡ c.x = read_is f.slots at.0 c.x x c.get read in
        let is : value_in f.slots at.0 ≡ slot_value (value_at f.slots c.m) f.slots at.0 (Some x) = c.is ∙ ap (λ y. slot_value (value_at f.slots c.m) f.slots at.0 (Some y)) (sym e) in
        record { get = c.get ∙ ap Some (sym e); m = c.m; le = c.le; is = is; tells = subst IsTold is told }

    pub var_read : at.0 < 2147483648 → (x : Slot) → x ≡ get_or f.slots at.0 x → (n : ℕ) → x ≡ slot.Var n → (value_in f.slots at.0 ≡ Some (Var n)) × (n < f.vars)
    var_read lt x read n is =
        let r = was_read lt x read in
        (r.is ∙ ap (λ y. slot_value (value_at f.slots r.m) f.slots at.0 (Some y)) is, sound.fits.below at.0 n (r.get ∙ ap Some is))

    pub leads : (n : ℕ) → value_in f.slots at.0 ≡ Some (Var n) → (to : Option Ref) → to ≡ to_of n (reverse f.log) → Leads f at to
    leads n value None is =
        let e = ap or_nil value in
        ap (walk (subst_in f)) e ∙ walk_free (subst_in f) n (none_is_unbound f.slots (reverse f.log) n (sym is)) ∙ sym e
    leads n value (Some q) is =
        let e = ap or_nil value in
        let l = looks_to f.slots (reverse f.log) n q sound.fits.sound (sym is) in
        let k : links (subst_in f) (told_in f at) ≡ suc (links (subst_in f) (told_in f q)) = ap (links (subst_in f)) e ∙ l.links in
        record { told = told_to f.slots (reverse f.log) n q sound.fits.told (sym is); same = ap (walk (subst_in f)) e ∙ l.walk; nearer = omega (arith, k) }

    pub var_leads : at.0 < 2147483648 → (x : Slot) → x ≡ get_or f.slots at.0 x → (n : ℕ) → x ≡ slot.Var n → (to : Option Ref) → to ≡ to_of n (reverse f.log) → Leads f at to
    var_leads lt x read n is to found = leads n (var_read lt x read n is).0 to found

    node_end : (o : Option Value) → value_in f.slots at.0 ≡ o → ((n : ℕ) → o ≡ Some (Var n) → ⊥) → IsEnd f at
    node_end None is other = let e = ap or_nil is in ap (walk (subst_in f)) e ∙ walk_node (subst_in f) Nil NoMore ∙ sym e
    node_end (Some (Var n)) is other = absurd (other n refl)
    node_end (Some (Node g vs)) is other = let e = ap or_nil is in ap (walk (subst_in f)) e ∙ walk_node (subst_in f) g vs ∙ sym e

    pub other_end : at.0 < 2147483648 → (x : Slot) → x ≡ get_or f.slots at.0 x → ((n : ℕ) → x ≡ slot.Var n → ⊥) → IsEnd f at
    other_end lt x read other =
        let r = was_read lt x read in
        node_end (value_in f.slots at.0) refl (λ n h.
        let g = (place_of_var f.slots (length f.slots) at.0 n h).1 in
        other n (let k : Some x ≡ Some (slot.Var n) = sym r.get ∙ g in cc))

    pub shows_var : at.0 < 2147483648 → (x : Slot) → x ≡ get_or f.slots at.0 x → (n : ℕ) → x ≡ slot.Var n → (grows : Bool) → ShowsVar (store_of grows f) (told_in f at) at
    shows_var lt x read n is grows =
        let r = var_read lt x read n is in
        record { number = n; is = ap or_nil r.0; value = r.0 }

    pub shows_pair : at.0 < 2147483648 → (x : Slot) → x ≡ get_or f.slots at.0 x → (h t : Ref) (k : Bool) → x ≡ slot.Pair h t k → (grows : Bool) → ShowsPair (store_of grows f) (told_in f at) h t
    shows_pair lt x read h t k is grows =
        let r = was_read lt x read in
        let e : value_in f.slots at.0 ≡ pair_told (value_at f.slots r.m h.0) (value_at f.slots r.m t.0) = r.is ∙ ap (λ y. slot_value (value_at f.slots r.m) f.slots at.0 (Some y)) is in
        let b = both_told (value_at f.slots r.m h.0) (value_at f.slots r.m t.0) (subst IsTold e told) in
        let p : value_in f.slots at.0 ≡ Some (pair b.0 b.1) = e ∙ both_are (value_at f.slots r.m h.0) (value_at f.slots r.m t.0) b.0 b.1 b.2 b.3 in
        record {
          head = b.0;
          tail = b.1;
          is = ap or_nil p;
          head_is = deeper f.slots r.m (length f.slots) h.0 b.0 r.le b.2;
          tail_is = deeper f.slots r.m (length f.slots) t.0 b.1 r.le b.3;
        }

    pub shows_closure : at.0 < 2147483648 → (x : Slot) → x ≡ get_or f.slots at.0 x → (place n : ℕ) → x ≡ slot.Closure place n → (grows : Bool) → ShowsClosure (store_of grows f) (told_in f at) place at
    shows_closure lt x read place n is grows =
        let r = was_read lt x read in
        let e : value_in f.slots at.0 ≡ closure_told place (captured_in (value_at f.slots r.m) f.slots (suc at.0) n) = r.is ∙ ap (λ y. slot_value (value_at f.slots r.m) f.slots at.0 (Some y)) is in
        let b = closure_parts place (captured_in (value_at f.slots r.m) f.slots (suc at.0) n) (subst IsTold e told) in
        let p : value_in f.slots at.0 ≡ Some (Node (Closure place) b.0) = e ∙ ap (closure_told place) b.1 in
        let few : n ≤ 65535 = sound.fits.few at.0 (slot.Closure place n) (r.get ∙ ap Some is) in
        record {
          parts = b.0;
          is = ap or_nil p;
          at = record { value = p; few = omega (arith, few, captured_count (value_at f.slots r.m) f.slots (suc at.0) n b.0 b.1) };
        }

    pub shows_unknown : at.0 < 2147483648 → (x : Slot) → x ≡ get_or f.slots at.0 x → (n : ℕ) → x ≡ slot.Unknown n → (grows : Bool) → ShowsUnknown (store_of grows f) (told_in f at) at
    shows_unknown lt x read n is grows =
        let r = was_read lt x read in
        let e : value_in f.slots at.0 ≡ word_told (letters_in f.slots (suc at.0) n) = r.is ∙ ap (λ y. slot_value (value_at f.slots r.m) f.slots at.0 (Some y)) is in
        let b = word_letters (letters_in f.slots (suc at.0) n) (subst IsTold e told) in
        let p : value_in f.slots at.0 ≡ Some (leaf (Unknown b.0)) = e ∙ ap word_told b.1 in
        let few : n ≤ 200 = sound.fits.few at.0 (slot.Unknown n) (r.get ∙ ap Some is) in
        record {
          spelling = b.0;
          is = ap or_nil p;
          at = record { value = p; short = omega (arith, few, letters_count f.slots (suc at.0) n b.0 b.1) };
        }

    pub no_captured : at.0 < 2147483648 → (x : Slot) → x ≡ get_or f.slots at.0 x → (q : Ref) → x ≡ slot.Captured q → ⊥
    no_captured lt x read q is = let r = was_read lt x read in let k : IsTold None = subst (λ y. IsTold (slot_value (value_at f.slots r.m) f.slots at.0 (Some y))) is r.tells in k

    pub no_letter : at.0 < 2147483648 → (x : Slot) → x ≡ get_or f.slots at.0 x → (c : ℕ) → x ≡ slot.Letter c → ⊥
    no_letter lt x read c is = let r = was_read lt x read in let k : IsTold None = subst (λ y. IsTold (slot_value (value_at f.slots r.m) f.slots at.0 (Some y))) is r.tells in k

  -- ## Captured values and letters

  read_slot : (r : ℕ) (x y : Slot) → slice_get f.slots r ≡ Some y → x ≡ get_or f.slots r x → x ≡ y
  read_slot r x y get read = read_is f.slots r y x get read

  closure_n : (grows : Bool) (at : Ref) (place : ℕ) (parts : Values) → IsClosureAt (store_of grows f) at place parts → (x : Slot) → x ≡ get_or f.slots at.0 x → (p n : ℕ) → x ≡ slot.Closure p n → (m : ℕ) × (m ≤ length f.slots) × (captured_in (value_at f.slots m) f.slots (suc at.0) n ≡ Some parts)
  closure_n grows at place parts h x read p n is =
      let c = closure_in f.slots at.0 place parts h.value in
      let e : x ≡ slot.Closure place c.n = read_slot at.0 x (slot.Closure place c.n) c.get read in
      let k : slot.Closure place c.n ≡ slot.Closure p n = sym e ∙ is in
      let l : c.n ≡ n = cc in
      (c.m, c.le, subst (λ j. captured_in (value_at f.slots c.m) f.slots (suc at.0) j ≡ Some parts) l c.captured)

  pub captured_none : (grows : Bool) (at : Ref) (place : ℕ) (parts : Values) → IsClosureAt (store_of grows f) at place parts → (x : Slot) → x ≡ get_or f.slots at.0 x → (p n : ℕ) → x ≡ slot.Closure p n → (i : ℕ) → n ≤ i → part_at i parts ≡ None
  captured_none grows at place parts h x read p n is i le =
      let c = closure_n grows at place parts h x read p n is in
      no_part i parts (omega (arith, captured_count (value_at f.slots c.0) f.slots (suc at.0) n parts c.2))

  pub captured_place : (grows : Bool) (at : Ref) (place : ℕ) (parts : Values) → IsClosureAt (store_of grows f) at place parts → (x : Slot) → x ≡ get_or f.slots at.0 x → (p n : ℕ) → x ≡ slot.Closure p n → (i : ℕ) → i < n → at.0 + 1 + i < length f.slots
  captured_place grows at place parts h x read p n is i lt =
      let c = closure_n grows at place parts h x read p n is in
      let q = captured_part (value_at f.slots c.0) f.slots (suc at.0) n i parts c.2 lt (at.0 + 1 + i) (omega arith) in
      slice_get_within f.slots (at.0 + 1 + i) (slot.Captured q.q) q.get

  pub captured_some : (grows : Bool) (at : Ref) (place : ℕ) (parts : Values) → IsClosureAt (store_of grows f) at place parts → (x : Slot) → x ≡ get_or f.slots at.0 x → (p n : ℕ) → x ≡ slot.Closure p n → (i : ℕ) → i < n → (r : Option Ref) → r ≡ captured_of (slice_get f.slots (at.0 + 1 + i)) → IsPart (store_of grows f) (part_at i parts) r
  captured_some grows at place parts h x read p n is i lt r found =
      let c = closure_n grows at place parts h x read p n is in
      let q = captured_part (value_at f.slots c.0) f.slots (suc at.0) n i parts c.2 lt (at.0 + 1 + i) (omega arith) in
      let e : r ≡ Some q.q = found ∙ ap captured_of q.get in
      let v = deeper f.slots c.0 (length f.slots) q.q.0 q.v c.1 q.value in
      rw e (some_told (part_at i parts) q.v q.part, v ∙ sym q.part)

  pub not_closure : (grows : Bool) (at : Ref) (place : ℕ) (parts : Values) → IsClosureAt (store_of grows f) at place parts → (x : Slot) → x ≡ get_or f.slots at.0 x → ((p n : ℕ) → x ≡ slot.Closure p n → ⊥) → ⊥
  not_closure grows at place parts h x read other =
      let c = closure_in f.slots at.0 place parts h.value in
      other place c.n (read_slot at.0 x (slot.Closure place c.n) c.get read)

  word_n : (grows : Bool) (at : Ref) (cs : List ℕ) → IsUnknownAt (store_of grows f) at cs → (x : Slot) → x ≡ get_or f.slots at.0 x → (n : ℕ) → x ≡ slot.Unknown n → letters_in f.slots (suc at.0) n ≡ Some cs
  word_n grows at cs h x read n is =
      let c = word_in f.slots at.0 cs h.value in
      let e : x ≡ slot.Unknown c.n = read_slot at.0 x (slot.Unknown c.n) c.get read in
      let k : slot.Unknown c.n ≡ slot.Unknown n = sym e ∙ is in
      let l : c.n ≡ n = cc in
      subst (λ j. letters_in f.slots (suc at.0) j ≡ Some cs) l c.letters

  pub letter_none : (grows : Bool) (at : Ref) (cs : List ℕ) → IsUnknownAt (store_of grows f) at cs → (x : Slot) → x ≡ get_or f.slots at.0 x → (n : ℕ) → x ≡ slot.Unknown n → (i : ℕ) → n ≤ i → slice_get cs i ≡ None
  letter_none grows at cs h x read n is i le =
      let c = word_n grows at cs h x read n is in
      slice_get_past cs i (omega (arith, letters_count f.slots (suc at.0) n cs c))

  pub letter_place : (grows : Bool) (at : Ref) (cs : List ℕ) → IsUnknownAt (store_of grows f) at cs → (x : Slot) → x ≡ get_or f.slots at.0 x → (n : ℕ) → x ≡ slot.Unknown n → (i : ℕ) → i < n → at.0 + 1 + i < length f.slots
  letter_place grows at cs h x read n is i lt =
      let q = letter_part f.slots (suc at.0) n i cs (word_n grows at cs h x read n is) lt (at.0 + 1 + i) (omega arith) in
      slice_get_within f.slots (at.0 + 1 + i) (slot.Letter q.0) q.1

  pub letter_some : (grows : Bool) (at : Ref) (cs : List ℕ) → IsUnknownAt (store_of grows f) at cs → (x : Slot) → x ≡ get_or f.slots at.0 x → (n : ℕ) → x ≡ slot.Unknown n → (i : ℕ) → i < n → (r : Option ℕ) → r ≡ letter_slot (slice_get f.slots (at.0 + 1 + i)) → r ≡ slice_get cs i
  letter_some grows at cs h x read n is i lt r found =
      let q = letter_part f.slots (suc at.0) n i cs (word_n grows at cs h x read n is) lt (at.0 + 1 + i) (omega arith) in
      found ∙ ap letter_slot q.1 ∙ sym q.2

  pub not_word : (grows : Bool) (at : Ref) (cs : List ℕ) → IsUnknownAt (store_of grows f) at cs → (x : Slot) → x ≡ get_or f.slots at.0 x → ((n : ℕ) → x ≡ slot.Unknown n → ⊥) → ⊥
  not_word grows at cs h x read other =
      let c = word_in f.slots at.0 cs h.value in
      other c.n (read_slot at.0 x (slot.Unknown c.n) c.get read)
