-- What two ends come to, of which the second has no parts.
use Rattle.std.proofs.Common.{◌≡◌, ℕ, ◌+◌, ◌-◌, ◌<◌, ◌≤◌, Bool, true, false, refl, sym, ap, ◌∙◌, arith, get_or}
use Rattle.std.specs.Prelude.{◌&&◌, if◌then◌else◌, min, nat_lt}
use Rattle.std.proofs.lemmas.Bool.{cond_both, ltb-true, ltb-false}
use Rattle.dg_meaning.specs.Values.{Label, Num, Word, Unknown, Object, Nil, Pair, Closure, Node, Values, NoMore, More, leaf}
use Rattle.dg_meaning.specs.Substitutions.{walk, resolved}
use Rattle.dg_meaning.specs.Unify.{same_label, as_many}
use Rattle.dg_meaning.specs.inside.Unify.{unify}
use Rattle.dg_meaning.proofs.Walks.{walked}
use Rattle.dg_meaning.proofs.UnifyLaws.{label_same}
use Rattle.dg_unify.specs.Store.{Does}
use Rattle.dg_unify.specs.Slots.{label_at, Fields, AreSound, store_of}
use Rattle.dg_unify.specs.inside.Ends.{subst_in, told_in, TellsOf, EndsAt}
use Rattle.dg_unify.specs.declared.bindings.Ref.{Ref}
use Rattle.dg_unify.specs.declared.slots.Slot.{Slot}
use Rattle.dg_unify.specs.declared.slots.Slot.TheVariants as slot
use Rattle.dg_unify.specs.declared.unifying.Met.TheVariants as met
use Rattle.dg_unify.proofs.Reading.{simple_told, shows_pair, shows_closure, shows_unknown, no_captured, no_letter}
use Rattle.dg_unify.proofs.Meets.{met_nodes}
use Rattle.dg_unify.proofs.KnownLemmas.{equal_done}
use Rattle.dg_arena.specs.inside.Settled.{Clash, Settles}

-- ## Labels

abbrev is_simple : Label → Bool
is_simple (Num n) = true
is_simple (Word n) = true
is_simple (Object n) = true
is_simple Nil = true
is_simple f = false

-- the number of a label without parts
abbrev back : Label → ℕ
back (Num n) = n
back (Word n) = n + 65536
back (Object n) = n + 131072
back f = 196608

label_simple : (k : ℕ) → is_simple (label_at k) ≡ true
label_simple k =
    cond_both (nat_lt k 65536) (Num k) (if nat_lt k 131072 then Word (k - 65536) else (if nat_lt k 196608 then Object (k - 131072) else Nil)) (λ f. is_simple f ≡ true) (λ e. refl)
    (λ e.
    cond_both (nat_lt k 131072) (Word (k - 65536)) (if nat_lt k 196608 then Object (k - 131072) else Nil) (λ f. is_simple f ≡ true) (λ e. refl)
    (λ e. cond_both (nat_lt k 196608) (Object (k - 131072)) Nil (λ f. is_simple f ≡ true) (λ e. refl) (λ e. refl)))

label_back : (k : ℕ) → back (label_at k) ≡ min k 196608
label_back k =
    cond_both (nat_lt k 65536) (Num k) (if nat_lt k 131072 then Word (k - 65536) else (if nat_lt k 196608 then Object (k - 131072) else Nil)) (λ f. back f ≡ min k 196608) (λ e. omega (arith, ltb-true k 65536 e))
    (λ d.
    cond_both (nat_lt k 131072) (Word (k - 65536)) (if nat_lt k 196608 then Object (k - 131072) else Nil) (λ f. back f ≡ min k 196608) (λ e. omega (arith, ltb-false k 65536 d, ltb-true k 131072 e))
    (λ c. cond_both (nat_lt k 196608) (Object (k - 131072)) Nil (λ f. back f ≡ min k 196608) (λ e. omega (arith, ltb-false k 131072 c, ltb-true k 196608 e)) (λ e. omega (arith, ltb-false k 196608 e))))

differ_if : (b c : Bool) → (b ≡ true → ⊥) → (b && c) ≡ false
differ_if true c ne = absurd (ne refl)
differ_if false c ne = refl

labels_differ : (f g : Label) (vs us : Values) → (f ≡ g → ⊥) → (same_label f g && as_many vs us) ≡ false
labels_differ f g vs us ne = differ_if (same_label f g) (as_many vs us) (λ e. ne (label_same f g e))

not_simple : (f : Label) (k : ℕ) → is_simple f ≡ false → f ≡ label_at k → ⊥
not_simple f k other e = let clash : true ≡ false = sym (label_simple k) ∙ ap is_simple (sym e) ∙ other in cc clash

-- ## Ends

module _ (f : Fields) (sound : AreSound f) (end value : Ref) (end_in : TellsOf f end) (value_in : TellsOf f value) (simple : 2147483648 ≤ value.0) where
  value_is : told_in f value ≡ leaf (label_at (value.0 - 2147483648))
  value_is = simple_told f sound value value_in simple

  -- two without parts, of which one isn't the empty list
  pub simple_clash : 2147483648 ≤ end.0 → (end.0 ≡ value.0 → ⊥) → min end.0 value.0 < 2147680256 → Clash f end value
  simple_clash le ne few =
      let x = end.0 - 2147483648 in
      let y = value.0 - 2147483648 in
      record {
        left = label_at x;
        parts = NoMore;
        right = label_at y;
        others = NoMore;
        left_is = simple_told f sound end end_in le;
        right_is = value_is;
        differ = labels_differ (label_at x) (label_at y) NoMore NoMore (λ e. ne (let k = ap back e in omega (arith, k, label_back x, label_back y)));
      }

  node_clash : (g : Label) (vs : Values) → told_in f end ≡ Node g vs → is_simple g ≡ false → Clash f end value
  node_clash g vs is other = record {
    left = g;
    parts = vs;
    right = label_at (value.0 - 2147483648);
    others = NoMore;
    left_is = is;
    right_is = value_is;
    differ = labels_differ g (label_at (value.0 - 2147483648)) vs NoMore (not_simple g (value.0 - 2147483648) other);
  }

  -- a value with parts, and one without
  pub slot_clash : end.0 < 2147483648 → (x : Slot) → x ≡ get_or f.slots end.0 x → ((n : ℕ) → x ≡ slot.Var n → ⊥) → Clash f end value
  slot_clash lt (slot.Var n) read ne = absurd (ne n refl)
  slot_clash lt (slot.Pair h t k) read ne = let s = shows_pair f sound end end_in lt (slot.Pair h t k) read h t k refl false in node_clash Pair (More s.head (More s.tail NoMore)) s.is refl
  slot_clash lt (slot.Closure place n) read ne = let s = shows_closure f sound end end_in lt (slot.Closure place n) read place n refl false in node_clash (Closure place) s.parts s.is refl
  slot_clash lt (slot.Unknown n) read ne = let s = shows_unknown f sound end end_in lt (slot.Unknown n) read n refl false in node_clash (Unknown s.spelling) NoMore s.is refl
  slot_clash lt (slot.Captured r) read ne = absurd (no_captured f sound end end_in lt (slot.Captured r) read r refl)
  slot_clash lt (slot.Letter c) read ne = absurd (no_letter f sound end end_in lt (slot.Letter c) read c refl)

pub same_ref : (f : Fields) (a b : Ref) → a.0 ≡ b.0 → told_in f a ≡ told_in f b
same_ref f a b e = ap (λ (k : ℕ). told_in f (record { 0 = k })) e

-- what comes of two values whose ends these are
pub settled : (f : Fields) → AreSound f → (a b end value : Ref) → TellsOf f a → TellsOf f b → EndsAt f a end → EndsAt f b value → (same : Bool) → Settles f end value same → Does (store_of false f) (store_of false f) (unify (subst_in f) (told_in f a) (told_in f b)) same
settled f sound a b end value a_in b_in ea eb true h =
    let S = subst_in f in
    let wa = walked S sound.fits.sound (told_in f a) in
    let wb = walked S sound.fits.sound (told_in f b) in
    let ends : walk S (told_in f a) ≡ walk S (told_in f b) = sym ea.is ∙ h ∙ eb.is in
    equal_done (store_of false f) sound.fits.sound a b (record { a_in = a_in; b_in = b_in; same = sym wa.same ∙ ap (resolved S) ends ∙ wb.same })
settled f sound a b end value a_in b_in ea eb false h =
    met_nodes (store_of false f) sound.fits.sound a b h.left h.right h.parts h.others (sym ea.is ∙ h.left_is) (sym eb.is ∙ h.right_is) (met.Done false) (refl, h.differ)
