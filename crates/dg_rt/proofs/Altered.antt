-- What is set behind a change, and tables that stand for it.
use Rattle.std.proofs.Common.{◌≡◌, ◌≢◌, ℕ, ◌+◌, ◌<◌, inl, inr, List, [], ◌∷◌, Bool, true, false, cond, Option, Some, None, refl, sym, ap, ◌∙◌, subst, arith, filter}
use Rattle.std.specs.Prelude.{not, nat_eq, ◌&&◌, is_some}
use Rattle.std.proofs.lemmas.Bool.{eqb-true, eq-eqb, cond-true, cond-false, cases_eq}
use Rattle.dg_meaning.specs.Values.{Value}
use Rattle.dg_meaning.specs.Facts.{Fact, is_at, value_at, Sets, Clears, ClearsAll, altered}
use Rattle.dg_rt.specs.Cells.{bit}
use Rattle.dg_rt.specs.Operands.{no_value}
use Rattle.dg_rt.specs.Tables.{byte_at}
use Rattle.dg_rt.specs.Changes.{SetIn, TableIn, FlagsIn}

-- ## Tests of places

and_false : (a b : Bool) → (a ≡ true → b ≡ true → ⊥) → (a && b) ≡ false
and_false true true h = absurd (h refl refl)
and_false true false h = refl
and_false false b h = refl

and_true : (a b : Bool) → (a && b) ≡ true → (a ≡ true) × (b ≡ true)
and_true true true h = (refl, refl)
and_true true false h = absurd (cc)
and_true false b h = absurd (cc)

at_itself : (p n : ℕ) → (nat_eq p p && nat_eq n n) ≡ true
at_itself p n = ap (λ b. b && nat_eq n n) (eq-eqb p p refl) ∙ eq-eqb n n refl

at_other : (p n q m : ℕ) → (q ≡ p → m ≡ n → ⊥) → (nat_eq p q && nat_eq n m) ≡ false
at_other p n q m h = and_false (nat_eq p q) (nat_eq n m) (λ e f. h (sym (eqb-true p q e)) (sym (eqb-true n m f)))

-- ## Facts that are set

pub set_there : (p n : ℕ) (v : Value) (facts : List Fact) → value_at (altered (Sets p n v) facts) p n ≡ Some v
set_there p n v facts = cond-true (nat_eq p p && nat_eq n n) (Some v) (value_at facts p n) (at_itself p n)

pub set_elsewhere : (p n : ℕ) (v : Value) (facts : List Fact) (q m : ℕ) → (q ≡ p → m ≡ n → ⊥) → value_at (altered (Sets p n v) facts) q m ≡ value_at facts q m
set_elsewhere p n v facts q m h = cond-false (nat_eq p q && nat_eq n m) (Some v) (value_at facts q m) (at_other p n q m h)

-- ## Facts that are cleared

not_true : (b : Bool) → b ≡ true → not b ≡ false
not_true true e = refl
not_true false e = absurd (cc)

not_false : (b : Bool) → b ≡ false → not b ≡ true
not_false true e = absurd (cc)
not_false false e = refl

filtered_out : (keeps : Fact → Bool) (q m : ℕ) → ((f : Fact) → is_at q m f ≡ true → keeps f ≡ false) → (facts : List Fact) → value_at (filter keeps facts) q m ≡ None
filtered_out keeps q m h [] = refl
filtered_out keeps q m h (f ∷ facts) =
    let IH = filtered_out keeps q m h facts in
    let goes : (b : Bool) → keeps f ≡ b → value_at (cond b (f ∷ filter keeps facts) (filter keeps facts)) q m ≡ None = λ b e. elim b as (λ x. keeps f ≡ x → value_at (cond x (f ∷ filter keeps facts) (filter keeps facts)) q m ≡ None) [
      | true ↦ λ k.
          let other : (a : Bool) → is_at q m f ≡ a → cond a (Some f.value) (value_at (filter keeps facts) q m) ≡ None = λ a i. elim a as (λ x. is_at q m f ≡ x → cond x (Some f.value) (value_at (filter keeps facts) q m) ≡ None) [ true ↦ λ y. (let z = h f y in absurd (cc)) | false ↦ λ y. IH ] i in
          other (is_at q m f) refl
      | false ↦ λ k. IH
    ] e in
    goes (keeps f) refl

filtered_past : (keeps : Fact → Bool) (q m : ℕ) → ((f : Fact) → is_at q m f ≡ true → keeps f ≡ true) → (facts : List Fact) → value_at (filter keeps facts) q m ≡ value_at facts q m
filtered_past keeps q m h [] = refl
filtered_past keeps q m h (f ∷ facts) =
    let IH = filtered_past keeps q m h facts in
    let there = value_at facts q m in
    let goes : (b : Bool) → keeps f ≡ b → value_at (cond b (f ∷ filter keeps facts) (filter keeps facts)) q m ≡ cond (is_at q m f) (Some f.value) there = λ b e. elim b as (λ x. keeps f ≡ x → value_at (cond x (f ∷ filter keeps facts) (filter keeps facts)) q m ≡ cond (is_at q m f) (Some f.value) there) [
      | true ↦ λ k. ap (cond (is_at q m f) (Some f.value)) IH
      | false ↦ λ k.
          let other : (a : Bool) → is_at q m f ≡ a → value_at (filter keeps facts) q m ≡ cond a (Some f.value) there = λ a i. elim a as (λ x. is_at q m f ≡ x → value_at (filter keeps facts) q m ≡ cond x (Some f.value) there) [ true ↦ λ y. (let z = h f y in absurd (cc)) | false ↦ λ y. IH ] i in
          other (is_at q m f) refl
    ] e in
    goes (keeps f) refl

pub cleared_there : (p n : ℕ) (facts : List Fact) → value_at (altered (Clears p n) facts) p n ≡ None
cleared_there p n facts = filtered_out (λ f. not (is_at p n f)) p n (λ f e. not_true (is_at p n f) e) facts

pub cleared_elsewhere : (p n : ℕ) (facts : List Fact) (q m : ℕ) → (q ≡ p → m ≡ n → ⊥) → value_at (altered (Clears p n) facts) q m ≡ value_at facts q m
cleared_elsewhere p n facts q m h = filtered_past (λ f. not (is_at p n f)) q m
    (λ f e.
    let at = and_true (nat_eq f.place q) (nat_eq f.object m) e in
    let place = eqb-true f.place q at.0 in
    let object = eqb-true f.object m at.1 in
    not_false (is_at p n f) (at_other f.place f.object p n (λ a b. h (sym place ∙ sym a) (sym object ∙ sym b))))
    facts

pub all_cleared : (p n : ℕ) (facts : List Fact) → value_at (altered (ClearsAll p) facts) p n ≡ None
all_cleared p n facts = filtered_out (λ f. not (nat_eq f.place p)) p n (λ f e. not_true (nat_eq f.place p) (and_true (nat_eq f.place p) (nat_eq f.object n) e).0) facts

eqb_other : (a b : ℕ) → (a ≡ b → ⊥) → nat_eq a b ≡ false
eqb_other a b h = let cut : (x : Bool) → nat_eq a b ≡ x → nat_eq a b ≡ false = λ x. elim x as (λ y. nat_eq a b ≡ y → nat_eq a b ≡ false) [ true ↦ λ e. absurd (h (eqb-true a b e)) | false ↦ λ e. e ] in cut (nat_eq a b) refl

pub others_stay : (p : ℕ) (facts : List Fact) (q m : ℕ) → (q ≡ p → ⊥) → value_at (altered (ClearsAll p) facts) q m ≡ value_at facts q m
others_stay p facts q m h = filtered_past (λ f. not (nat_eq f.place p)) q m
    (λ f e. not_false (nat_eq f.place p) (eqb_other f.place p (λ a. h (sym (eqb-true f.place q (and_true (nat_eq f.place q) (nat_eq f.object m) e).0) ∙ a))))
    facts

-- ## Tables

-- What is set of one object changes, with its word.
pub table_with : (cells cells' : ℕ → ℕ) (t n place o : ℕ) (facts facts' : List Fact) → o < n → SetIn (cells' (t + o)) (value_at facts' place o) → ((i : ℕ) → i ≢ o → value_at facts' place i ≡ value_at facts place i) → ((k : ℕ) → k ≢ t + o → cells' k ≡ cells k) → TableIn cells t n facts place → TableIn cells' t n facts' place
table_with cells cells' t n place o facts facts' lt is same others h = record {
  each = λ i less. elim (cases_eq i o) [
    | inl e ↦ subst (λ (j : ℕ). SetIn (cells' (t + j)) (value_at facts' place j)) (sym e) is
    | inr ne ↦ subst (SetIn (cells' (t + i))) (sym (same i ne)) (subst (λ (w : ℕ). SetIn w (value_at facts place i)) (sym (others (t + i) (λ (q : t + i ≡ t + o). ne (omega arith)))) (h.each i less))
  ];
  few = λ i le. same i (λ (e : i ≡ o). (omega arith)) ∙ h.few i le;
}

-- What is set of each does.
pub table_all : (cells' : ℕ → ℕ) (t n place : ℕ) (facts' : List Fact) → ((o : ℕ) → o < n → cells' (t + o) ≡ no_value) → ((i : ℕ) → value_at facts' place i ≡ None) → TableIn cells' t n facts' place
table_all cells' t n place facts' are none = record {
  each = λ i less. subst (SetIn (cells' (t + i))) (sym (none i)) (are i less);
  few = λ i le. none i;
}

pub table_stays : (cells cells' : ℕ → ℕ) (t n place : ℕ) (facts facts' : List Fact) → ((i : ℕ) → value_at facts' place i ≡ value_at facts place i) → ((o : ℕ) → o < n → cells' (t + o) ≡ cells (t + o)) → TableIn cells t n facts place → TableIn cells' t n facts' place
table_stays cells cells' t n place facts facts' same others h = record {
  each = λ i less. subst (SetIn (cells' (t + i))) (sym (same i)) (subst (λ (w : ℕ). SetIn w (value_at facts place i)) (sym (others i less)) (h.each i less));
  few = λ i le. same i ∙ h.few i le;
}

-- So it is with flags.
pub flags_with : (cells cells' : ℕ → ℕ) (b n place o : ℕ) (facts facts' : List Fact) → o < n → byte_at cells' (b + o) ≡ bit (is_some (value_at facts' place o)) → ((i : ℕ) → i ≢ o → value_at facts' place i ≡ value_at facts place i) → ((j : ℕ) → j ≢ b + o → byte_at cells' j ≡ byte_at cells j) → FlagsIn cells b n facts place → FlagsIn cells' b n facts' place
flags_with cells cells' b n place o facts facts' lt is same others h = record {
  each = λ i less. elim (cases_eq i o) [
    | inl e ↦ subst (λ (j : ℕ). byte_at cells' (b + j) ≡ bit (is_some (value_at facts' place j))) (sym e) is
    | inr ne ↦ others (b + i) (λ (q : b + i ≡ b + o). ne (omega arith)) ∙ h.each i less ∙ ap (λ (x : Option Value). bit (is_some x)) (sym (same i ne))
  ];
  few = λ i le. same i (λ (e : i ≡ o). (omega arith)) ∙ h.few i le;
}

pub flags_all : (cells' : ℕ → ℕ) (b n place : ℕ) (facts' : List Fact) → ((o : ℕ) → o < n → byte_at cells' (b + o) ≡ 0) → ((i : ℕ) → value_at facts' place i ≡ None) → FlagsIn cells' b n facts' place
flags_all cells' b n place facts' are none = record {
  each = λ i less. are i less ∙ ap (λ (x : Option Value). bit (is_some x)) (sym (none i));
  few = λ i le. none i;
}

pub flags_stay : (cells cells' : ℕ → ℕ) (b n place : ℕ) (facts facts' : List Fact) → ((i : ℕ) → value_at facts' place i ≡ value_at facts place i) → ((o : ℕ) → o < n → byte_at cells' (b + o) ≡ byte_at cells (b + o)) → FlagsIn cells b n facts place → FlagsIn cells' b n facts' place
flags_stay cells cells' b n place facts facts' same others h = record {
  each = λ i less. others i less ∙ h.each i less ∙ ap (λ (x : Option Value). bit (is_some x)) (sym (same i));
  few = λ i le. same i ∙ h.few i le;
}
