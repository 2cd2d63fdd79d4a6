-- A variable that there isn't yet stands in no value that a word shows, resolved.
use Rattle.std.proofs.Common.{◌≡◌, ℕ, ◌≤◌, inl, inr, false, [], ◌∷◌, Some, None, refl, sym, ◌∙◌, subst, arith}
use Rattle.std.specs.Prelude.{eqb}
use Rattle.std.proofs.lemmas.Bool.{cond_both, cond-true, cond-false, eq-eqb, ne_eqb, cases_eq, cases_lt, or_from}
use Rattle.dg_meaning.specs.Values.{Value, Var, Node, Values, NoMore, More}
use Rattle.dg_meaning.specs.Substitutions.{Substitution, replaced, all_replaced, resolved, contains, any_contains}
use Rattle.dg_meaning.specs.inside.Substitutions.{IsSubstitution}
use Rattle.dg_meaning.specs.inside.Unifiers.{binding_of}
use Rattle.dg_meaning.proofs.LookUps.{unbound_none}
use Rattle.dg_meaning.proofs.Walks.{or_left, or_right}
use Rattle.dg_rt.specs.Shapes.{Shape, Shows, number, dict, object, nil, variable, boxed, Filled, pair_in, closure_in, word_in, AllShow, no_more, one_more, Stands}

module _ (n : ℕ) where
  mutual
    shows_absent : {sh : Shape} {x : ℕ} {v : Value} → sh.vars ≤ n → Shows sh x v → contains n v ≡ false
    shows_absent le (number m lt) = refl
    shows_absent le (dict m lt) = refl
    shows_absent le (object m lt) = refl
    shows_absent le nil = refl
    shows_absent le (variable m lt) = ne_eqb m n (λ (e : m ≡ n). (omega arith))
    shows_absent le (boxed k header lt box at inside) = filled_absent le inside

    filled_absent : {sh : Shape} {k header : ℕ} {v : Value} → sh.vars ≤ n → Filled sh k header v → contains n v ≡ false
    filled_absent le (pair_in {h = h} {t = t} k x y one two s q) = or_from (contains n h) (any_contains n (More t NoMore)) (shows_absent le s) (or_from (contains n t) false (shows_absent le q) refl)
    filled_absent le (closure_in k place small told few one all) = all_absent le all
    filled_absent le (word_in k fine all) = refl

    all_absent : {sh : Shape} {k : ℕ} {vs : Values} → sh.vars ≤ n → AllShow sh k vs → any_contains n vs ≡ false
    all_absent le (no_more k) = refl
    all_absent le (one_more {v = v} {vs = vs} k x at s a) = or_from (contains n v) (any_contains n vs) (shows_absent le s) (all_absent le a)

  -- ---- resolved

  mutual
    pub replaced_absent : (x : ℕ) (u : Value) → contains n u ≡ false → (t : Value) → contains n t ≡ false → contains n (replaced x u t) ≡ false
    replaced_absent x u none (Var y) none' = cond_both (eqb y x) u (Var y) (λ (v : Value). contains n v ≡ false) (λ e. none) (λ e. none')
    replaced_absent x u none (Node f vs) none' = all_replaced_absent x u none vs none'

    all_replaced_absent : (x : ℕ) (u : Value) → contains n u ≡ false → (vs : Values) → any_contains n vs ≡ false → any_contains n (all_replaced x u vs) ≡ false
    all_replaced_absent x u none NoMore none' = refl
    all_replaced_absent x u none (More v vs) none' =
        or_from (contains n (replaced x u v)) (any_contains n (all_replaced x u vs)) (replaced_absent x u none v (or_left (contains n v) (any_contains n vs) none'))
        (all_replaced_absent x u none vs (or_right (contains n v) (any_contains n vs) none'))

  -- it stands in no binding
  abbrev NoneHas : Substitution → Type 0
  NoneHas S = (m : ℕ) (v : Value) → binding_of m S ≡ Some v → contains n v ≡ false

  resolved_absent : (S : Substitution) → IsSubstitution S → NoneHas S → (v : Value) → contains n v ≡ false → contains n (resolved S v) ≡ false
  resolved_absent [] s none v none' = none'
  resolved_absent (b ∷ S) s none v none' =
      let older : NoneHas S = λ m w e. elim (cases_eq m b.0) [
        | inl same ↦ absurd (let k : None ≡ Some w = sym (unbound_none b.0 S s.0.unbound) ∙ subst (λ (i : ℕ). binding_of i S ≡ Some w) same e in cc)
        | inr ne ↦ none m w (cond-false (eqb m b.0) (Some b.1) (binding_of m S) (ne_eqb m b.0 ne) ∙ e)
      ] in
      replaced_absent b.0 (resolved S b.1) (resolved_absent S s.1 older b.1 (none b.0 b.1 (cond-true (eqb b.0 b.0) (Some b.1) (binding_of b.0 S) (eq-eqb b.0 b.0 refl)))) (resolved S v) (resolved_absent S s.1 older v none')

-- The next variable is absent.
pub next_absent : {sh : Shape} {x : ℕ} {v : Value} (cells : ℕ → ℕ) (S : Substitution) → Stands sh cells S → ((n : ℕ) → sh.vars ≤ n → binding_of n S ≡ None) → Shows sh x v → contains sh.vars (resolved S v) ≡ false
next_absent {sh} {x} {v} cells S st known s = resolved_absent sh.vars S st.sound none v (shows_absent sh.vars (omega arith) s)
  where
    none : NoneHas sh.vars S
    none m w e = elim (cases_lt m sh.vars) [
      | inl old ↦ shows_absent sh.vars (omega arith) (st.bound m w old e)
      | inr ge ↦ absurd (let k : None ≡ Some w = sym (known m ge) ∙ e in cc)
    ]
