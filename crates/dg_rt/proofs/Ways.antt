-- What unification comes to, by its first turn.
use Rattle.std.proofs.Common.{◌≡◌, ◌≢◌, ℕ, ◌+◌, ◌<◌, ◌≤◌, inl, inr, Bool, true, false, List, [], ◌∷◌, length, refl, sym, ap, ◌∙◌, subst, arith, append-nil, Some}
use Rattle.std.specs.Prelude.{eqb, max, ◌&&◌}
use Rattle.std.proofs.lemmas.Bool.{eq-eqb, ne_eqb, cases_eq, cond-true, cond-false}
use Rattle.dg_meaning.specs.Values.{Label, Num, Word, Object, Nil, Value, Node, Values, NoMore, More, Var, leaf}
use Rattle.dg_meaning.specs.ValueCells.{count_of}
use Rattle.dg_meaning.specs.Substitutions.{Substitution, walk}
use Rattle.dg_meaning.specs.inside.Substitutions.{FitsFront, IsSubstitution}
use Rattle.dg_meaning.specs.Unify.{same_spelling, same_label, Equations, as_many, Turn, Goes, Binds, Clashes, turn, cost, Unified, agreed, clashed, counted, top_of_pairs, top_of_equations, solve}
use Rattle.dg_meaning.specs.inside.Unify.{solve_turn, unify}
use Rattle.dg_meaning.specs.Letters.{values_compared, compared}
use Rattle.dg_meaning.proofs.Solving.{Fair, turn_fair, solve_extends}
use Rattle.dg_meaning.proofs.UnifyLaws.{solve_step, solve_nothing, solve_first, label_same}
use Rattle.dg_rt.specs.Shapes.{Shape, Filled, pair_in, closure_in, word_in, IsShape, Cell, Shows, number, dict, object, nil, variable, boxed}
use Rattle.dg_rt.specs.Moments.{trail_of}
use Rattle.dg_rt.specs.Unifies.{price}
use Rattle.dg_rt.proofs.Binding.{trail_append}
use Rattle.dg_rt.proofs.Compared.{compared_turn, compared_step, compared_append}
use Rattle.dg_rt.proofs.Showing.{reference_value}

pub record Bound (S : Substitution) (a b : Value) (x : ℕ) (v : Value) : Type 0 where
  pub is : unify S a b ≡ counted (cost S a b) (agreed ((x, v) ∷ S))
  pub fits : FitsFront x v S

pub bound : (S : Substitution) (a b : Value) (x : ℕ) (v : Value) → IsSubstitution S → turn S a b ≡ Binds x v → Bound S a b x v
bound S a b x v s e =
    let n = max (top_of_pairs S) (top_of_equations ((a, b) ∷ [])) in
    let fair : Fair n S a b (Binds x v) = subst (Fair n S a b) e (turn_fair n S a b s (omega arith) (omega arith) (omega arith)) in
    record {
      is = solve_step S (a, b) [] s ∙ ap (λ (t : Turn). counted (cost S a b) (solve_turn S [] t)) e ∙ ap (counted (cost S a b)) (solve_nothing ((x, v) ∷ S));
      fits = fair.fits;
    }

pub clashing : (S : Substitution) (a b : Value) → IsSubstitution S → turn S a b ≡ Clashes → unify S a b ≡ counted (cost S a b) (clashed S)
clashing S a b s e = solve_step S (a, b) [] s ∙ ap (λ (t : Turn). counted (cost S a b) (solve_turn S [] t)) e

pub nothing : (S : Substitution) (a b : Value) → IsSubstitution S → turn S a b ≡ Goes [] → unify S a b ≡ counted (cost S a b) (agreed S)
nothing S a b s e = solve_step S (a, b) [] s ∙ ap (λ (t : Turn). counted (cost S a b) (solve_turn S [] t)) e ∙ ap (counted (cost S a b)) (solve_nothing S)

-- ---- simple values: their words are the same where their labels are

pub data Simple : ℕ → Label → Type 0 where
  a_number : (n : ℕ) → n < 16384 → Simple n (Num n)
  a_word : (n : ℕ) → n < 8192 → Simple (16384 + n) (Word n)
  an_object : (n : ℕ) → n < 4096 → Simple (24576 + n) (Object n)
  a_nil : Simple 28672 Nil

pub simple_small : {u : ℕ} {g : Label} → Simple u g → u < 32768
simple_small (a_number n lt) = omega arith
simple_small (a_word n lt) = omega arith
simple_small (an_object n lt) = omega arith
simple_small a_nil = omega arith

added : (k m n : ℕ) → eqb (k + m) (k + n) ≡ eqb m n
added k m n =
    elim (cases_eq m n) [
      | inl e ↦ eq-eqb (k + m) (k + n) (omega arith) ∙ sym (eq-eqb m n e)
      | inr ne ↦ ne_eqb (k + m) (k + n) (λ (e : k + m ≡ k + n). ne (omega arith)) ∙ sym (ne_eqb m n ne)
    ]

differ : (u w : ℕ) → u < w → eqb u w ≡ false
differ u w lt = ne_eqb u w (λ (e : u ≡ w). (omega arith))

differ' : (u w : ℕ) → w < u → eqb u w ≡ false
differ' u w lt = ne_eqb u w (λ (e : u ≡ w). (omega arith))

pub same_words : {u w : ℕ} {f g : Label} → Simple u f → Simple w g → eqb u w ≡ same_label f g
same_words (a_number m a) (a_number n b) = refl
same_words (a_number m a) (a_word n b) = differ m (16384 + n) (omega arith)
same_words (a_number m a) (an_object n b) = differ m (24576 + n) (omega arith)
same_words (a_number m a) a_nil = differ m 28672 (omega arith)
same_words (a_word m a) (a_number n b) = differ' (16384 + m) n (omega arith)
same_words (a_word m a) (a_word n b) = added 16384 m n
same_words (a_word m a) (an_object n b) = differ (16384 + m) (24576 + n) (omega arith)
same_words (a_word m a) a_nil = differ (16384 + m) 28672 (omega arith)
same_words (an_object m a) (a_number n b) = differ' (24576 + m) n (omega arith)
same_words (an_object m a) (a_word n b) = differ' (24576 + m) (16384 + n) (omega arith)
same_words (an_object m a) (an_object n b) = added 24576 m n
same_words (an_object m a) a_nil = differ (24576 + m) 28672 (omega arith)
same_words a_nil (a_number n b) = differ' 28672 n (omega arith)
same_words a_nil (a_word n b) = differ' 28672 (16384 + n) (omega arith)
same_words a_nil (an_object n b) = differ' 28672 (24576 + n) (omega arith)
same_words a_nil a_nil = refl

pub simple_no_box : {sh : Shape} {u k header : ℕ} {g f : Label} {vs : Values} → Simple u g → Filled sh k header (Node f vs) → (same_label g f ≡ false) × (same_label f g ≡ false)
simple_no_box (a_number n lt) (pair_in k x y a b c d) = (refl, refl)
simple_no_box (a_number n lt) (closure_in k place a t u b c) = (refl, refl)
simple_no_box (a_number n lt) (word_in k fine a) = (refl, refl)
simple_no_box (a_word n lt) (pair_in k x y a b c d) = (refl, refl)
simple_no_box (a_word n lt) (closure_in k place a t u b c) = (refl, refl)
simple_no_box (a_word n lt) (word_in k fine a) = (refl, refl)
simple_no_box (an_object n lt) (pair_in k x y a b c d) = (refl, refl)
simple_no_box (an_object n lt) (closure_in k place a t u b c) = (refl, refl)
simple_no_box (an_object n lt) (word_in k fine a) = (refl, refl)
simple_no_box a_nil (pair_in k x y a b c d) = (refl, refl)
simple_no_box a_nil (closure_in k place a t u b c) = (refl, refl)
simple_no_box a_nil (word_in k fine a) = (refl, refl)

-- ---- what a word is, at its top

pub data Kind (sh : Shape) : ℕ → Value → Type 0 where
  kind_variable : (n : ℕ) → n < sh.vars → Kind sh (32768 + sh.place n) (Var n)
  kind_simple : {u : ℕ} {g : Label} → Simple u g → Kind sh u (leaf g)
  kind_box : {f : Label} {vs : Values} (k header : ℕ) → k + 2 < 10000 → sh.box k ≡ Some (Node f vs) → Cell sh k header → Filled sh k header (Node f vs) → Kind sh (49152 + k) (Node f vs)

pub kind : {sh : Shape} {u : ℕ} {x : Value} → Shows sh u x → Kind sh u x
kind (number n lt) = kind_simple (a_number n lt)
kind (dict n lt) = kind_simple (a_word n lt)
kind (object n lt) = kind_simple (an_object n lt)
kind nil = kind_simple a_nil
kind (variable n lt) = kind_variable n lt
kind (boxed {v = Node f vs} k header lt box at inside) = kind_box k header lt box at inside
kind (boxed {v = Var n} k header lt box at inside) = elim inside [ ]

-- one word stands for one value
pub one_value : {sh : Shape} → IsShape sh → {u w : ℕ} {x y : Value} → Kind sh u x → Kind sh w y → Shows sh u x → Shows sh w y → u ≡ w → x ≡ y
one_value is (kind_variable n old) k s s' e = sym (reference_value is n old s' (sym e))
one_value is (kind_simple q) (kind_variable i old) s s' e = reference_value is i old s e
one_value is (kind_simple {u = u} {g = g} q) (kind_simple {u = w} {g = h} q') s s' e = ap (λ (l : Label). leaf l) (label_same g h (sym (same_words q q') ∙ eq-eqb u w e))
one_value is (kind_simple q) (kind_box k header lt box at inside) s s' e = let low = simple_small q in absurd (omega arith)
one_value is (kind_box k header lt box at inside) (kind_variable i old) s s' e = reference_value is i old s e
one_value is (kind_box k header lt box at inside) (kind_simple q) s s' e = let low = simple_small q in absurd (omega arith)
one_value {sh} is (kind_box {f = f} {vs = vs} k header lt box at inside) (kind_box {f = h} {vs = us} k' header' lt' box' at' inside') s s' e =
    let same : k ≡ k' = omega arith in
    let boxes : Some (Node f vs) ≡ Some (Node h us) = sym box ∙ ap (λ (j : ℕ). sh.box j) same ∙ box' in
    cc

pub same_word : {sh : Shape} → IsShape sh → {u w : ℕ} {x y : Value} → Shows sh u x → Shows sh w y → u ≡ w → x ≡ y
same_word is s s' e = one_value is (kind s) (kind s') s s' e

-- ---- spellings and numbers of parts

and_false : (t b : Bool) → b ≡ false → (t && b) ≡ false
and_false true b e = e
and_false false b e = refl

pub other_length : (xs ys : List ℕ) → length xs ≢ length ys → same_spelling xs ys ≡ false
other_length [] [] ne = absurd (ne refl)
other_length [] (y ∷ ys) ne = refl
other_length (x ∷ xs) [] ne = refl
other_length (x ∷ xs) (y ∷ ys) ne = and_false (eqb x y) (same_spelling xs ys) (other_length xs ys (λ (e : length xs ≡ length ys). ne (omega arith)))

pub many_are : (vs us : Values) → as_many vs us ≡ eqb (count_of vs) (count_of us)
many_are NoMore NoMore = refl
many_are NoMore (More u us) = sym (ne_eqb 0 (1 + count_of us) (λ (e : 0 ≡ 1 + count_of us). (omega arith)))
many_are (More v vs) NoMore = sym (ne_eqb (1 + count_of vs) 0 (λ (e : 1 + count_of vs ≡ 0). (omega arith)))
many_are (More v vs) (More u us) = many_are vs us ∙ sym (added 1 (count_of vs) (count_of us))

-- ---- parts

-- An equation that goes on with parts.
pub goes_on : (S : Substitution) (a b : Value) (parts : Equations) → IsSubstitution S → turn S a b ≡ Goes parts → unify S a b ≡ counted (cost S a b) (solve S parts)
goes_on S a b parts s e = solve_step S (a, b) [] s ∙ ap (λ (t : Turn). counted (cost S a b) (solve_turn S [] t)) e ∙ ap (λ (es : Equations). counted (cost S a b) (solve S es)) (append-nil parts)

pub letters_on : (S : Substitution) (a b : Value) (parts : Equations) → IsSubstitution S → turn S a b ≡ Goes parts → compared S ((a, b) ∷ []) ≡ values_compared (walk S a) (walk S b) + compared S parts
letters_on S a b parts s e = compared_step S (a, b) [] s ∙ ap (λ (t : Turn). values_compared (walk S a) (walk S b) + compared_turn S [] t) e ∙ ap (λ (es : Equations). values_compared (walk S a) (walk S b) + compared S es) (append-nil parts)

pub letters_clash : (S : Substitution) (a b : Value) → IsSubstitution S → turn S a b ≡ Clashes → compared S ((a, b) ∷ []) ≡ values_compared (walk S a) (walk S b)
letters_clash S a b s e = compared_step S (a, b) [] s ∙ ap (λ (t : Turn). values_compared (walk S a) (walk S b) + compared_turn S [] t) e ∙ (omega arith)

-- The first of some equations, and the others: where it agrees, and where it clashes.
module _ (S : Substitution) (s : IsSubstitution S) (h h' : Value) (es : Equations) where
  abbrev one : Unified
  one = unify S h h'

  pub first_yes : one.agrees ≡ true → solve S ((h, h') ∷ es) ≡ counted one.count (solve one.subst es)
  first_yes e = solve_first S (h, h') es s ∙ cond-true one.agrees (counted one.count (solve one.subst es)) one e

  pub first_no : one.agrees ≡ false → solve S ((h, h') ∷ es) ≡ one
  first_no e = solve_first S (h, h') es s ∙ cond-false one.agrees (counted one.count (solve one.subst es)) one e

  pub price_yes : one.agrees ≡ true → price S ((h, h') ∷ es) ≡ price S ((h, h') ∷ []) + price one.subst es
  price_yes e =
      let counts = ap (λ (u : Unified). u.count) (first_yes e) in
      let letters = compared_append S ((h, h') ∷ []) es s ∙ ap (λ (n : ℕ). compared S ((h, h') ∷ []) + n) (cond-true one.agrees (compared one.subst es) 0 e) in
      omega arith

  price_no : one.agrees ≡ false → price S ((h, h') ∷ es) ≡ price S ((h, h') ∷ [])
  price_no e =
      let counts = ap (λ (u : Unified). u.count) (first_no e) in
      let letters = compared_append S ((h, h') ∷ []) es s ∙ ap (λ (n : ℕ). compared S ((h, h') ∷ []) + n) (cond-false one.agrees (compared one.subst es) 0 e) in
      omega arith

  -- What the first takes of the count and of the trail is no more than what all take.
  pub record TakesLess (since : ℕ) : Type 0 where
    pub costs : price S ((h, h') ∷ []) ≤ price S ((h, h') ∷ es)
    pub counts : one.count ≤ (solve S ((h, h') ∷ es)).count
    pub trails : trail_of since one.subst ≤ trail_of since (solve S ((h, h') ∷ es)).subst

  pub takes_less : (since : ℕ) (ok : Bool) → one.agrees ≡ ok → TakesLess since
  takes_less since true e =
      let p = price_yes e in
      let c = ap (λ (u : Unified). u.count) (first_yes e) in
      let t = ap (λ (u : Unified). trail_of since u.subst) (first_yes e) in
      let grew = solve_extends one.subst es (solve_extends S ((h, h') ∷ []) s).sound in
      let more = trail_append since grew.made one.subst in
      let is = ap (trail_of since) grew.is in
      record { costs = omega arith; counts = omega arith; trails = omega arith }
  takes_less since false e =
      let p = price_no e in
      let c = ap (λ (u : Unified). u.count) (first_no e) in
      let t = ap (λ (u : Unified). trail_of since u.subst) (first_no e) in
      record { costs = omega arith; counts = omega arith; trails = omega arith }
