-- One look of the test of containment behind another.
use Rattle.std.proofs.Common.{◌≡◌, ℕ, ◌+◌, ◌<◌, Bool, true, false, Option, Some, None, refl, sym, ap, ◌∙◌, arith}
use Rattle.dg_meaning.specs.Values.{Label, Value, Var, Node, Values}
use Rattle.dg_meaning.specs.Substitutions.{Substitution, walk, links}
use Rattle.dg_meaning.specs.inside.Substitutions.{IsSubstitution}
use Rattle.dg_meaning.specs.inside.Unifiers.{binding_of}
use Rattle.dg_meaning.specs.Unify.{then_look}
use Rattle.dg_meaning.proofs.LookUps.{looks_up, walk_free, none_unbound}

pub then_found : (l r : Bool × ℕ) → l.0 ≡ true → then_look l r ≡ (true, l.1)
then_found (true, m) r e = refl
then_found (false, m) r e = absurd (cc e)

pub then_on : (l r : Bool × ℕ) → l.0 ≡ false → then_look l r ≡ (r.0, l.1 + r.1)
then_on (true, m) r e = absurd (cc e)
then_on (false, m) r e = refl

pub then_last : (l : Bool × ℕ) → then_look l (false, 0) ≡ l
then_last (true, m) = refl
then_last (false, m) = ap (λ (k : ℕ). (false, k)) (omega arith)

-- a variable that is walked to another value has a link
pub links_some : (S : Substitution) → (st : IsSubstitution S) → (y : ℕ) (f : Label) (vs : Values) → walk S (Var y) ≡ Node f vs → 0 < links S (Var y)
links_some S st y f vs e = by_binding (binding_of y S) refl
  where
    by_binding : (found : Option Value) → binding_of y S ≡ found → 0 < links S (Var y)
    by_binding None is = absurd (let free = walk_free S y (none_unbound y S is) in cc (sym free ∙ e))
    by_binding (Some u) is = let up = (looks_up S y u st is).links in omega arith
