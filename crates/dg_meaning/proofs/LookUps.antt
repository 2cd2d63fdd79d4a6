-- A walk looks a value up, and a value is resolved by looking up each of its variables.
use Rattle.std.proofs.Common.{◌≡◌, ℕ, suc, [], ◌∷◌, true, false, refl, sym, ◌∙◌, arith, subst, Some, None, inl, inr}
use Rattle.std.specs.Prelude.{eqb}
use Rattle.std.proofs.lemmas.Bool.{cond-true, cond-false, cases_eq, eq-eqb, ne_eqb}
use Rattle.dg_meaning.specs.Values.{Label, Value, Var, Node, Values}
use Rattle.dg_meaning.specs.Substitutions.{Substitution, at_var, walk, links_at, links, resolved, contains}
use Rattle.dg_meaning.specs.inside.Substitutions.{is_bound, IsSubstitution}
use Rattle.dg_meaning.specs.inside.Unifiers.{binding_of, WalksUp, Resolves}
use Rattle.dg_meaning.proofs.Walks.{resolved_unbound, resolved_node, replaced_absent, Walked, walked, or_left, or_right, or_false}

-- ## Bound or not

pub none_unbound : (x : ℕ) (S : Substitution) → binding_of x S ≡ None → is_bound x S ≡ false
none_unbound x [] h = refl
none_unbound x (p ∷ S) h =
    elim (cases_eq x p.0) [
      | inl e ↦ absurd (let k : Some p.1 ≡ None = sym (cond-true (eqb x p.0) (Some p.1) (binding_of x S) (eq-eqb x p.0 e)) ∙ h in cc)
      | inr ne ↦
          let k : binding_of x S ≡ None = sym (cond-false (eqb x p.0) (Some p.1) (binding_of x S) (ne_eqb x p.0 ne)) ∙ h in
          or_false (eqb x p.0) (is_bound x S) (ne_eqb x p.0 ne) (none_unbound x S k)
    ]

pub unbound_none : (x : ℕ) (S : Substitution) → is_bound x S ≡ false → binding_of x S ≡ None
unbound_none x [] h = refl
unbound_none x (p ∷ S) h = cond-false (eqb x p.0) (Some p.1) (binding_of x S) (or_left (eqb x p.0) (is_bound x S) h) ∙ unbound_none x S (or_right (eqb x p.0) (is_bound x S) h)

-- ## Walks

pub walk_node : (S : Substitution) (f : Label) (vs : Values) → walk S (Node f vs) ≡ Node f vs
walk_node [] f vs = refl
walk_node (p ∷ S) f vs = rw (walk_node S f vs) refl

pub links_node : (S : Substitution) (f : Label) (vs : Values) → links S (Node f vs) ≡ 0
links_node [] f vs = refl
links_node (p ∷ S) f vs = rw (walk_node S f vs, links_node S f vs) refl

pub walk_free : (S : Substitution) (x : ℕ) → is_bound x S ≡ false → walk S (Var x) ≡ Var x
walk_free [] x h = refl
walk_free (p ∷ S) x h = rw (walk_free S x (or_right (eqb x p.0) (is_bound x S) h)) (cond-false (eqb x p.0) (walk S p.1) (Var x) (or_left (eqb x p.0) (is_bound x S) h))

pub links_free : (S : Substitution) (x : ℕ) → is_bound x S ≡ false → links S (Var x) ≡ 0
links_free [] x h = refl
links_free (p ∷ S) x h =
    let w = walk_free S x (or_right (eqb x p.0) (is_bound x S) h) in
    let l = links_free S x (or_right (eqb x p.0) (is_bound x S) h) in
    rw (w, l, or_left (eqb x p.0) (is_bound x S) h) refl

at_absent : (x : ℕ) (S : Substitution) (u t w : Value) (k : ℕ) → contains x (resolved S u) ≡ false → Walked S u w → (at_var x t w ≡ w) × (links_at x k w ≡ 0)
at_absent x S u t (Node f vs) k h w = (refl, refl)
at_absent x S u t (Var y) k h w =
    let stays : resolved S u ≡ Var y = sym w.same ∙ resolved_unbound S y (w.free y refl) in
    let ne : eqb y x ≡ false = subst (λ (v : Value). contains x v ≡ false) stays h in
    (cond-false (eqb y x) t (Var y) ne, cond-false (eqb y x) (suc k) 0 ne)

-- a bound variable, and what it is bound to
pub record LooksUp (S : Substitution) (x : ℕ) (v : Value) : Type 0 where
  pub walk : walk S (Var x) ≡ walk S v
  pub links : links S (Var x) ≡ suc (links S v)
  pub resolved : resolved S (Var x) ≡ resolved S v

pub looks_up : (S : Substitution) (x : ℕ) (v : Value) → IsSubstitution S → binding_of x S ≡ Some v → LooksUp S x v
looks_up [] x v s h = absurd (cc h)
looks_up (p ∷ S) x v s h =
    elim (cases_eq x p.0) [
      | inl e ↦
          let is : Some p.1 ≡ Some v = sym (cond-true (eqb x p.0) (Some p.1) (binding_of x S) (eq-eqb x p.0 e)) ∙ h in
          let same : p.1 ≡ v = cc in
          let out : is_bound x S ≡ false = subst (λ (k : ℕ). is_bound k S ≡ false) (sym e) s.0.unbound in
          let a = at_absent p.0 S p.1 (walk S p.1) (walk S p.1) (links S p.1) s.0.absent (walked S s.1 p.1) in
          let at : eqb x p.0 ≡ true = eq-eqb x p.0 e in
          subst (LooksUp (p ∷ S) x) same (record {
            walk = rw (walk_free S x out, at) (sym a.0);
            links = rw (walk_free S x out, links_free S x out, at, a.1) (omega arith);
            resolved = rw (resolved_unbound S x out, at) (sym (replaced_absent p.0 (resolved S p.1) (resolved S p.1) s.0.absent));
          })
      | inr ne ↦
          let k : binding_of x S ≡ Some v = sym (cond-false (eqb x p.0) (Some p.1) (binding_of x S) (ne_eqb x p.0 ne)) ∙ h in
          let r = looks_up S x v s.1 k in
          record {
            walk = rw r.walk refl;
            links = rw (r.walk, r.links) (omega arith);
            resolved = rw r.resolved refl;
          }
    ]

-- ## The laws

pub walks_up : (S : Substitution) → IsSubstitution S → WalksUp S
walks_up S s = record {
  node = walk_node S;
  unbound = λ x h. walk_free S x (none_unbound x S h);
  is_bound = λ x v h. (looks_up S x v s h).walk;
  link = λ x v h. (looks_up S x v s h).links;
  stops = λ v x h. unbound_none x S ((walked S s v).free x h);
}

pub resolves : (S : Substitution) → IsSubstitution S → Resolves S
resolves S s = record {
  node = resolved_node S;
  unbound = λ x h. resolved_unbound S x (none_unbound x S h);
  is_bound = λ x v h. (looks_up S x v s h).resolved;
  walked = λ v. (walked S s v).same;
}
