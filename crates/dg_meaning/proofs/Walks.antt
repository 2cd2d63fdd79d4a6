-- What a walk and an application give.
use Rattle.std.proofs.Common.{◌≡◌, ℕ, ◌*◌, ◌<◌, ◌≤◌, [], ◌∷◌, Bool, true, false, refl, sym, ap, ◌∙◌, arith, subst}
use Rattle.std.specs.Prelude.{eqb, ◌||◌}
use Rattle.std.proofs.lemmas.Bool.{cond_both, cond-true, cond-false}
use Rattle.dg_meaning.specs.Values.{Label, Value, Var, Node, Values, NoMore, More}
use Rattle.dg_meaning.specs.Substitutions.{Substitution, at_var, walk, replaced, all_replaced, resolved, contains, any_contains}
use Rattle.dg_meaning.specs.inside.Substitutions.{is_bound, all_resolved, FitsFront, IsSubstitution}
use Rattle.dg_meaning.specs.Unify.{size, sizes}

pub or_left : (a b : Bool) → (a || b) ≡ false → a ≡ false
or_left true b h = h
or_left false b h = refl

pub or_right : (a b : Bool) → (a || b) ≡ false → b ≡ false
or_right true b h = cc
or_right false b h = h

pub or_false : (a b : Bool) → a ≡ false → b ≡ false → (a || b) ≡ false
or_false true b h k = h
or_false false b h k = k

mutual
  pub replaced_absent : (x : ℕ) (u t : Value) → contains x t ≡ false → replaced x u t ≡ t
  replaced_absent x u (Var y) h = cond-false (eqb y x) u (Var y) h
  replaced_absent x u (Node f vs) h = ap (Node f) (all_replaced_absent x u vs h)

  pub all_replaced_absent : (x : ℕ) (u : Value) (vs : Values) → any_contains x vs ≡ false → all_replaced x u vs ≡ vs
  all_replaced_absent x u NoMore h = refl
  all_replaced_absent x u (More v vs) h =
      let a = replaced_absent x u v (or_left (contains x v) (any_contains x vs) h) in
      let b = all_replaced_absent x u vs (or_right (contains x v) (any_contains x vs) h) in
      cc

pub resolved_unbound : (S : Substitution) (y : ℕ) → is_bound y S ≡ false → resolved S (Var y) ≡ Var y
resolved_unbound [] y h = refl
resolved_unbound (p ∷ S) y h =
    rw (resolved_unbound S y (or_right (eqb y p.0) (is_bound y S) h)) (cond-false (eqb y p.0) (resolved S p.1) (Var y) (or_left (eqb y p.0) (is_bound y S) h))

all_resolved_pair : (p : ℕ × Value) (S : Substitution) (vs : Values) → all_replaced p.0 (resolved S p.1) (all_resolved S vs) ≡ all_resolved (p ∷ S) vs
all_resolved_pair p S NoMore = refl
all_resolved_pair p S (More v vs) = ap (More (resolved (p ∷ S) v)) (all_resolved_pair p S vs)

all_resolved_none : (vs : Values) → all_resolved [] vs ≡ vs
all_resolved_none NoMore = refl
all_resolved_none (More v vs) = ap (More v) (all_resolved_none vs)

pub resolved_node : (S : Substitution) (f : Label) (vs : Values) → resolved S (Node f vs) ≡ Node f (all_resolved S vs)
resolved_node [] f vs = ap (Node f) (sym (all_resolved_none vs))
resolved_node (p ∷ S) f vs = rw (resolved_node S f vs) (ap (Node f) (all_resolved_pair p S vs))

-- what a walk of v gives
pub record Walked (S : Substitution) (v w : Value) : Type 0 where
  pub same : resolved S w ≡ resolved S v
  pub free : (y : ℕ) → w ≡ Var y → is_bound y S ≡ false

walked_step : (p : ℕ × Value) (S : Substitution) → FitsFront p.0 p.1 S → (v u w : Value) → Walked S v w → Walked S p.1 u → Walked (p ∷ S) v (at_var p.0 u w)
walked_step p S fits v u (Node f vs) wv wu = record {
  same = ap (replaced p.0 (resolved S p.1)) wv.same;
  free = λ y e. cc;
}
walked_step p S fits v u (Var y) wv wu =
    let out = resolved_unbound S y (wv.free y refl) in
    cond_both (eqb y p.0) u (Var y) (Walked (p ∷ S) v)
    (λ e. record {
      same =
          rw (wu.same, replaced_absent p.0 (resolved S p.1) (resolved S p.1) fits.absent, ← wv.same, out) (sym (cond-true (eqb y p.0) (resolved S p.1) (Var y) e));
      free = λ z is.
          let unbound : is_bound z S ≡ false = wu.free z is in
          let stays : resolved S p.1 ≡ Var z = sym wu.same ∙ ap (resolved S) is ∙ resolved_unbound S z unbound in
          let differs : contains p.0 (Var z) ≡ false = subst (λ (t : Value). contains p.0 t ≡ false) stays fits.absent in
          or_false (eqb z p.0) (is_bound z S) differs unbound;
    })
    (λ e. record {
      same = ap (replaced p.0 (resolved S p.1)) wv.same;
      free = λ z is.
          let same : y ≡ z = cc in
          subst (λ (k : ℕ). is_bound k (p ∷ S) ≡ false) same (or_false (eqb y p.0) (is_bound y S) e (wv.free y refl));
    })

pub walked : (S : Substitution) → IsSubstitution S → (v : Value) → Walked S v (walk S v)
walked [] s v = record { same = refl; free = λ y e. refl }
walked (p ∷ S) s v = walked_step p S s.0 v (walk S p.1) (walk S v) (walked S s.1 v) (walked S s.1 p.1)

pub size_some : (v : Value) → 0 < size v
size_some (Var y) = omega arith
size_some (Node f vs) = omega arith

mutual
  pub size_replaced : (x : ℕ) (u t : Value) → size (replaced x u t) ≤ size t * size u
  size_replaced x u (Var y) = cond_both (eqb y x) u (Var y) (λ (w : Value). size w ≤ 1 * size u) (λ e. omega arith) (λ e. omega (arith, size_some u))
  size_replaced x u (Node f vs) = omega (arith, sizes_replaced x u vs, size_some u)

  pub sizes_replaced : (x : ℕ) (u : Value) (vs : Values) → sizes (all_replaced x u vs) ≤ sizes vs * size u
  sizes_replaced x u NoMore = omega arith
  sizes_replaced x u (More v vs) = omega (arith, size_replaced x u v, sizes_replaced x u vs)
