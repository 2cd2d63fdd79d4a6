-- Values of which the variables ascend: what is in front of them mentions none of these.
use Rattle.std.proofs.Common.{◌≡◌, ℕ, suc, ◌+◌, ◌<◌, ◌≤◌, inl, inr, Bool, true, false, List, [], ◌∷◌, Some, None, refl, sym, ap, ◌∙◌, subst, arith}
use Rattle.std.specs.Prelude.{eqb, max, nat_lt, if◌then◌else◌}
use Rattle.std.proofs.lemmas.Bool.{eq-eqb, ne_eqb, cases_eq, cases_lt, cond-true, cond-false, lt-ltb}
use Rattle.dg_meaning.specs.Values.{Label, Value, Var, Node, Values, NoMore, More, leaf, pair}
use Rattle.dg_meaning.specs.Substitutions.{Substitution, walk, resolved, contains, any_contains}
use Rattle.dg_meaning.specs.inside.Substitutions.{is_bound, IsSubstitution}
use Rattle.dg_meaning.specs.inside.Unifiers.{binding_of}
use Rattle.dg_meaning.specs.Unify.{Binds, Clashes, binds, ties, turn, top, tops, top_of_pairs}
use Rattle.dg_meaning.proofs.Walks.{or_false, resolved_node, resolved_unbound}
use Rattle.dg_meaning.proofs.LookUps.{unbound_none, walk_free, walk_node}
use Rattle.dg_meaning.proofs.Solving.{walk_top}
use Rattle.dg_rt.specs.Shapes.{Shape, Shows, number, dict, object, nil, variable, boxed, Filled, pair_in, closure_in, word_in, AllShow, no_more, one_more, Stands}
use Rattle.dg_rt.specs.Taking.{Ascends, a_variable, a_simple, a_pair}
use Rattle.dg_rt.proofs.Absent.{replaced_absent}

-- ## Ascending

pub ascends_order : {low high : ℕ} {b : Value} → Ascends low b high → low ≤ high
ascends_order (a_variable low x high le lt) = omega arith
ascends_order (a_simple low high f s le) = le
ascends_order (a_pair low middle high h t) = let p = ascends_order h in let q = ascends_order t in omega arith

-- all variables are below the end
pub ascends_top : {low high : ℕ} {b : Value} → Ascends low b high → top b ≤ high
ascends_top (a_variable low x high le lt) = omega arith
ascends_top (a_simple low high f s le) = omega arith
ascends_top (a_pair low middle high h t) = let p = ascends_top h in let q = ascends_top t in let r = ascends_order t in omega arith

-- from an earlier number on, below a later one
pub ascends_wider : {low high : ℕ} {b : Value} (low' high' : ℕ) → low' ≤ low → high ≤ high' → Ascends low b high → Ascends low' b high'
ascends_wider low' high' le le' (a_variable low x high from below) = a_variable low' x high' (omega arith) (omega arith)
ascends_wider low' high' le le' (a_simple low high f s order) = a_simple low' high' f s (omega arith)
ascends_wider low' high' le le' (a_pair low middle high h t) = a_pair low' middle high' (ascends_wider low' middle le (omega arith) h) (ascends_wider middle high' (omega arith) le' t)

-- an earlier variable isn't contained
pub ascends_absent : {low high : ℕ} {b : Value} (y : ℕ) → y < low → Ascends low b high → contains y b ≡ false
ascends_absent y lt (a_variable low x high le below) = ne_eqb x y (λ (e : x ≡ y). (omega arith))
ascends_absent y lt (a_simple low high f s le) = refl
ascends_absent y lt (a_pair {h = h} {t = t} low middle high p q) =
    let o = ascends_order p in
    or_false (contains y h) (any_contains y (More t NoMore)) (ascends_absent y lt p) (or_false (contains y t) false (ascends_absent y (omega arith) q) refl)

-- ## Above all variables

mutual
  pub above_absent : (x : ℕ) (v : Value) → top v ≤ x → contains x v ≡ false
  above_absent x (Var y) le = ne_eqb y x (λ (e : y ≡ x). (omega arith))
  above_absent x (Node f vs) le = all_above_absent x vs le

  all_above_absent : (x : ℕ) (vs : Values) → tops vs ≤ x → any_contains x vs ≡ false
  all_above_absent x NoMore le = refl
  all_above_absent x (More v vs) le = or_false (contains x v) (any_contains x vs) (above_absent x v (omega arith)) (all_above_absent x vs (omega arith))

-- A variable that nothing mentions isn't contained in what a value is resolved to.
pub resolved_above : (x : ℕ) (S : Substitution) → top_of_pairs S ≤ x → (v : Value) → contains x v ≡ false → contains x (resolved S v) ≡ false
resolved_above x [] le v none = none
resolved_above x (p ∷ S) le v none = replaced_absent x p.0 (resolved S p.1) (resolved_above x S (omega arith) p.1 (above_absent x p.1 (omega arith))) (resolved S v) (resolved_above x S (omega arith) v none)

pub unbound_above : (x : ℕ) (S : Substitution) → top_of_pairs S ≤ x → is_bound x S ≡ false
unbound_above x [] le = refl
unbound_above x (p ∷ S) le = or_false (eqb x p.0) (is_bound x S) (ne_eqb x p.0 (λ (e : x ≡ p.0). (omega arith))) (unbound_above x S (omega arith))

-- Ascending variables are as they are.
pub ascends_resolved : {low high : ℕ} {b : Value} (S : Substitution) → top_of_pairs S ≤ low → Ascends low b high → resolved S b ≡ b
ascends_resolved S le (a_variable low x high from below) = resolved_unbound S x (unbound_above x S (omega arith))
ascends_resolved S le (a_simple low high f s order) = resolved_node S f NoMore
ascends_resolved S le (a_pair {h = h} {t = t} low middle high p q) =
    let o = ascends_order p in
    let a = ascends_resolved S le p in
    let b = ascends_resolved S (omega arith) q in
    resolved_node S _ (More h (More t NoMore)) ∙ (rw (a, b) refl)

-- ## Turns

module _ (S : Substitution) (a : Value) (low : ℕ) (bound : top_of_pairs S ≤ low) (argument : top a ≤ low) where
  -- a variable from there on is bound to what the other value is looked up to
  taken_turn : (x : ℕ) (w : Value) → low ≤ x → top w ≤ low → contains x (resolved S w) ≡ false → walk S a ≡ w → walk S (Var x) ≡ Var x → turn S a (Var x) ≡ Binds x w
  taken_turn x (Var y) le small none e free = rw (e, free, ne_eqb y x (λ (q : y ≡ x). (omega arith)), lt-ltb y x (omega arith)) refl
  taken_turn x (Node f vs) le small none e free = rw (e, free, none) refl

  pub taken_binds : (x : ℕ) → low ≤ x → turn S a (Var x) ≡ Binds x (walk S a)
  taken_binds x le =
      let small = walk_top low S a bound argument in
      taken_turn x (walk S a) le small (resolved_above x S (omega arith) (walk S a) (above_absent x (walk S a) (omega arith))) refl (walk_free S x (unbound_above x S (omega arith)))

  -- an earlier unbound variable is bound to what ascends
  pub earlier_binds : (y high : ℕ) (f : Label) (vs : Values) → walk S a ≡ Var y → Ascends low (Node f vs) high → turn S a (Node f vs) ≡ Binds y (Node f vs)
  earlier_binds y high f vs e b =
      let small = walk_top low S a bound argument in
      let lt : y < low = (let q = ap top e in omega arith) in
      let none : contains y (resolved S (Node f vs)) ≡ false = ap (contains y) (ascends_resolved S bound b) ∙ ascends_absent y lt b in
      rw (e, walk_node S f vs, none) refl

-- ## What stands in memory

mutual
  pub shows_top : {sh : Shape} {x : ℕ} {v : Value} → Shows sh x v → top v ≤ sh.vars
  shows_top (number m lt) = omega arith
  shows_top (dict m lt) = omega arith
  shows_top (object m lt) = omega arith
  shows_top nil = omega arith
  shows_top (variable m lt) = omega arith
  shows_top (boxed k header lt box at inside) = filled_top inside

  filled_top : {sh : Shape} {k header : ℕ} {v : Value} → Filled sh k header v → top v ≤ sh.vars
  filled_top (pair_in k x y one two s q) = let a = shows_top s in let b = shows_top q in omega arith
  filled_top (closure_in k place small told few one all) = all_top all
  filled_top (word_in k fine all) = omega arith

  all_top : {sh : Shape} {k : ℕ} {vs : Values} → AllShow sh k vs → tops vs ≤ sh.vars
  all_top (no_more k) = omega arith
  all_top (one_more k x at s all) = let a = shows_top s in let b = all_top all in omega arith

-- each binding is below a number
abbrev BelowEach : ℕ → Substitution → Type 0
BelowEach n S = (m : ℕ) (v : Value) → binding_of m S ≡ Some v → (m < n) × (top v ≤ n)

pairs_top : (n : ℕ) (S : Substitution) → IsSubstitution S → BelowEach n S → top_of_pairs S ≤ n
pairs_top n [] s each = omega arith
pairs_top n (b ∷ S) s each =
    let older : BelowEach n S = λ m w e. elim (cases_eq m b.0) [
      | inl same ↦ absurd (let k : None ≡ Some w = sym (unbound_none b.0 S s.0.unbound) ∙ subst (λ (i : ℕ). binding_of i S ≡ Some w) same e in cc)
      | inr ne ↦ each m w (cond-false (eqb m b.0) (Some b.1) (binding_of m S) (ne_eqb m b.0 ne) ∙ e)
    ] in
    let here = each b.0 b.1 (cond-true (eqb b.0 b.0) (Some b.1) (binding_of b.0 S) (eq-eqb b.0 b.0 refl)) in
    let low = here.0 in
    let high = here.1 in
    let rest = pairs_top n S s.1 older in
    omega arith

-- A substitution that memory stands for mentions the variables of the shape alone.
pub stands_top : {sh : Shape} (cells : ℕ → ℕ) (S : Substitution) → Stands sh cells S → ((n : ℕ) → sh.vars ≤ n → binding_of n S ≡ None) → top_of_pairs S ≤ sh.vars
stands_top {sh} cells S st known = pairs_top sh.vars S st.sound (λ m v e. elim (cases_lt m sh.vars) [
  | inl lt ↦ (lt, shows_top (st.bound m v lt e))
  | inr ge ↦ absurd (let k : None ≡ Some v = sym (known m ge) ∙ e in cc)
])
