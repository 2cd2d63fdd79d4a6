-- What is set behind a change.
use Rattle.std.proofs.Common.{◌≡◌, ℕ, List, [], ◌∷◌, ◌++◌, Bool, true, false, cond, Some, None, map, refl, sym, ap, ◌∙◌, arith, length, filter}
use Rattle.std.specs.Prelude.{not, nat_eq, ◌&&◌, ◌||◌}
use Rattle.std.specs.List.{list_any}
use Rattle.std.proofs.lemmas.Bool.{eqb-true, eq-eqb, cond-true, cond-false}
use Rattle.std.proofs.lemmas.List.Folds.{list_any-append}
use Rattle.dg_base.specs.declared.cells.Cell.{Cell}
use Rattle.dg_base.specs.declared.cells.Cell.TheVariants as cell
use Rattle.dg_meaning.specs.Values.{Label, Num, Word, Unknown, Object, Nil, Pair, Closure, Value, Var, Node, Values, NoMore, More}
use Rattle.dg_meaning.specs.TypeTests.{is_fully_bound, are_fully_bound}
use Rattle.dg_meaning.specs.ValueCells.{count_of, label_cells, cells_of, cells_of_all}
use Rattle.dg_meaning.specs.Facts.{Fact, is_at, value_at, Sets, Clears, ClearsAll, altered}
use Rattle.dg_world.specs.Tables.{is_fresh}

-- ## Tests of places

and_false : (a b : Bool) → (a ≡ true → b ≡ true → ⊥) → (a && b) ≡ false
and_false true true h = absurd (h refl refl)
and_false true false h = refl
and_false false b h = refl

and_true : (a b : Bool) → (a && b) ≡ true → (a ≡ true) × (b ≡ true)
and_true true true h = (refl, refl)
and_true true false h = absurd (cc)
and_true false b h = absurd (cc)

at_itself : (p n : ℕ) → (nat_eq p p && nat_eq n n) ≡ true
at_itself p n = ap (λ b. b && nat_eq n n) (eq-eqb p p refl) ∙ eq-eqb n n refl

at_other : (p n q m : ℕ) → (q ≡ p → m ≡ n → ⊥) → (nat_eq p q && nat_eq n m) ≡ false
at_other p n q m h = and_false (nat_eq p q) (nat_eq n m) (λ e f. h (sym (eqb-true p q e)) (sym (eqb-true n m f)))

-- ## Facts that are set

pub set_there : (p n : ℕ) (v : Value) (facts : List Fact) → value_at (altered (Sets p n v) facts) p n ≡ Some v
set_there p n v facts = cond-true (nat_eq p p && nat_eq n n) (Some v) (value_at facts p n) (at_itself p n)

pub set_elsewhere : (p n : ℕ) (v : Value) (facts : List Fact) (q m : ℕ) → (q ≡ p → m ≡ n → ⊥) → value_at (altered (Sets p n v) facts) q m ≡ value_at facts q m
set_elsewhere p n v facts q m h = cond-false (nat_eq p q && nat_eq n m) (Some v) (value_at facts q m) (at_other p n q m h)

-- ## Facts that are cleared

not_true : (b : Bool) → b ≡ true → not b ≡ false
not_true true e = refl
not_true false e = absurd (cc)

not_false : (b : Bool) → b ≡ false → not b ≡ true
not_false true e = absurd (cc)
not_false false e = refl

filtered_out : (keeps : Fact → Bool) (q m : ℕ) → ((f : Fact) → is_at q m f ≡ true → keeps f ≡ false) → (facts : List Fact) → value_at (filter keeps facts) q m ≡ None
filtered_out keeps q m h [] = refl
filtered_out keeps q m h (f ∷ facts) =
    let IH = filtered_out keeps q m h facts in
    let goes : (b : Bool) → keeps f ≡ b → value_at (cond b (f ∷ filter keeps facts) (filter keeps facts)) q m ≡ None = λ b e. elim b as (λ x. keeps f ≡ x → value_at (cond x (f ∷ filter keeps facts) (filter keeps facts)) q m ≡ None) [
      | true ↦ λ k.
          let other : (a : Bool) → is_at q m f ≡ a → cond a (Some f.value) (value_at (filter keeps facts) q m) ≡ None = λ a i. elim a as (λ x. is_at q m f ≡ x → cond x (Some f.value) (value_at (filter keeps facts) q m) ≡ None) [ true ↦ λ y. (let z = h f y in absurd (cc)) | false ↦ λ y. IH ] i in
          other (is_at q m f) refl
      | false ↦ λ k. IH
    ] e in
    goes (keeps f) refl

filtered_past : (keeps : Fact → Bool) (q m : ℕ) → ((f : Fact) → is_at q m f ≡ true → keeps f ≡ true) → (facts : List Fact) → value_at (filter keeps facts) q m ≡ value_at facts q m
filtered_past keeps q m h [] = refl
filtered_past keeps q m h (f ∷ facts) =
    let IH = filtered_past keeps q m h facts in
    let there = value_at facts q m in
    let goes : (b : Bool) → keeps f ≡ b → value_at (cond b (f ∷ filter keeps facts) (filter keeps facts)) q m ≡ cond (is_at q m f) (Some f.value) there = λ b e. elim b as (λ x. keeps f ≡ x → value_at (cond x (f ∷ filter keeps facts) (filter keeps facts)) q m ≡ cond (is_at q m f) (Some f.value) there) [
      | true ↦ λ k. ap (cond (is_at q m f) (Some f.value)) IH
      | false ↦ λ k.
          let other : (a : Bool) → is_at q m f ≡ a → value_at (filter keeps facts) q m ≡ cond a (Some f.value) there = λ a i. elim a as (λ x. is_at q m f ≡ x → value_at (filter keeps facts) q m ≡ cond x (Some f.value) there) [ true ↦ λ y. (let z = h f y in absurd (cc)) | false ↦ λ y. IH ] i in
          other (is_at q m f) refl
    ] e in
    goes (keeps f) refl

pub cleared_there : (p n : ℕ) (facts : List Fact) → value_at (altered (Clears p n) facts) p n ≡ None
cleared_there p n facts = filtered_out (λ f. not (is_at p n f)) p n (λ f e. not_true (is_at p n f) e) facts

pub cleared_elsewhere : (p n : ℕ) (facts : List Fact) (q m : ℕ) → (q ≡ p → m ≡ n → ⊥) → value_at (altered (Clears p n) facts) q m ≡ value_at facts q m
cleared_elsewhere p n facts q m h = filtered_past (λ f. not (is_at p n f)) q m
    (λ f e.
    let at = and_true (nat_eq f.place q) (nat_eq f.object m) e in
    let place = eqb-true f.place q at.0 in
    let object = eqb-true f.object m at.1 in
    not_false (is_at p n f) (at_other f.place f.object p n (λ a b. h (sym place ∙ sym a) (sym object ∙ sym b))))
    facts

pub all_cleared : (p n : ℕ) (facts : List Fact) → value_at (altered (ClearsAll p) facts) p n ≡ None
all_cleared p n facts = filtered_out (λ f. not (nat_eq f.place p)) p n (λ f e. not_true (nat_eq f.place p) (and_true (nat_eq f.place p) (nat_eq f.object n) e).0) facts

eqb_other : (a b : ℕ) → (a ≡ b → ⊥) → nat_eq a b ≡ false
eqb_other a b h = let cut : (x : Bool) → nat_eq a b ≡ x → nat_eq a b ≡ false = λ x. elim x as (λ y. nat_eq a b ≡ y → nat_eq a b ≡ false) [ true ↦ λ e. absurd (h (eqb-true a b e)) | false ↦ λ e. e ] in cut (nat_eq a b) refl

pub others_stay : (p : ℕ) (facts : List Fact) (q m : ℕ) → (q ≡ p → ⊥) → value_at (altered (ClearsAll p) facts) q m ≡ value_at facts q m
others_stay p facts q m h = filtered_past (λ f. not (nat_eq f.place p)) q m
    (λ f e. not_false (nat_eq f.place p) (eqb_other f.place p (λ a. h (sym (eqb-true f.place q (and_true (nat_eq f.place q) (nat_eq f.object m) e).0) ∙ a))))
    facts

-- ## Variables in the cells of a value

no_char : (spelling : List ℕ) → list_any is_fresh (map cell.Char spelling) ≡ false
no_char [] = refl
no_char (c ∷ cs) = no_char cs

no_label : (label : Label) (n : ℕ) → list_any is_fresh (label_cells label n) ≡ false
no_label (Num k) n = refl
no_label (Word k) n = refl
no_label (Unknown spelling) n = no_char spelling
no_label (Object k) n = refl
no_label Nil n = refl
no_label Pair n = refl
no_label (Closure place) n = refl

or_not : (a b x y : Bool) → x ≡ not a → y ≡ not b → (x || y) ≡ not (a && b)
or_not true b x y e f = ap (λ z. z || y) e ∙ f
or_not false b x y e f = ap (λ z. z || y) e

mutual
  pub variable_in : (v : Value) → list_any is_fresh (cells_of v) ≡ not (is_fully_bound v)
  variable_in (Var n) = refl
  variable_in (Node label parts) = list_any-append is_fresh (label_cells label (count_of parts)) (cells_of_all parts) ∙ ap (λ b. b || list_any is_fresh (cells_of_all parts)) (no_label label (count_of parts)) ∙ variable_in_all parts

  variable_in_all : (vs : Values) → list_any is_fresh (cells_of_all vs) ≡ not (are_fully_bound vs)
  variable_in_all NoMore = refl
  variable_in_all (More v vs) = list_any-append is_fresh (cells_of v) (cells_of_all vs) ∙ or_not (is_fully_bound v) (are_fully_bound vs) _ _ (variable_in v) (variable_in_all vs)

-- a value has a cell
some_label : (label : Label) (n : ℕ) (more : List Cell) → length (label_cells label n ++ more) ≡ 0 → ⊥
some_label (Num k) n more h = omega arith
some_label (Word k) n more h = omega arith
some_label (Unknown spelling) n more h = omega arith
some_label (Object k) n more h = omega arith
some_label Nil n more h = omega arith
some_label Pair n more h = omega arith
some_label (Closure place) n more h = omega arith

pub some_cell : (v : Value) → length (cells_of v) ≡ 0 → ⊥
some_cell (Var n) h = omega arith
some_cell (Node label parts) h = some_label label (count_of parts) (cells_of_all parts) h
