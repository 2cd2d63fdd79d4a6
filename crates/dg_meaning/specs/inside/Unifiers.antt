-- That unification finds the most general way to make two values equal, where there is one. Hold it against docs/LANGUAGE.md, where it says when two
-- values unify.
use Rattle.std.specs.Prelude.{◌≡◌, ℕ, suc, eqb, [], ◌∷◌, Option, Some, None, true, if◌then◌else◌}
use Rattle.dg_meaning.specs.Values.{Label, Value, Var, Node, Values, NoMore, More}
use Rattle.dg_meaning.specs.Substitutions.{Substitution, walk, links, resolved}
use Rattle.dg_meaning.specs.inside.Substitutions.{all_resolved, IsSubstitution, Extends}
use Rattle.dg_meaning.specs.inside.Unify.{unify}

-- ## Looking up

-- What a variable is bound to.
abbrev pub binding_of : ℕ → Substitution → Option Value
binding_of x [] = None
binding_of x (p ∷ S) = if eqb x p.0 then Some p.1 else binding_of x S

-- A walk looks a value up until it is no bound variable.
pub record WalksUp (S : Substitution) : Type 0 where
  pub node : (f : Label) → (vs : Values) → walk S (Node f vs) ≡ Node f vs
  pub unbound : (x : ℕ) → binding_of x S ≡ None → walk S (Var x) ≡ Var x
  pub is_bound : (x : ℕ) → (v : Value) → binding_of x S ≡ Some v → walk S (Var x) ≡ walk S v
  pub link : (x : ℕ) → (v : Value) → binding_of x S ≡ Some v → links S (Var x) ≡ suc (links S v)
  pub stops : (v : Value) → (x : ℕ) → walk S v ≡ Var x → binding_of x S ≡ None

-- A value is resolved by its parts, and a bound variable as what it is bound to.
pub record Resolves (S : Substitution) : Type 0 where
  pub node : (f : Label) → (vs : Values) → resolved S (Node f vs) ≡ Node f (all_resolved S vs)
  pub unbound : (x : ℕ) → binding_of x S ≡ None → resolved S (Var x) ≡ Var x
  pub is_bound : (x : ℕ) → (v : Value) → binding_of x S ≡ Some v → resolved S (Var x) ≡ resolved S v
  pub walked : (v : Value) → resolved S (walk S v) ≡ resolved S v

-- ## Making values equal

-- A value for each variable.
abbrev pub Assignment : Type 0
Assignment = ℕ → Value

-- A value with each variable in it replaced by that.
abbrev mutual
  pub under : Assignment → Value → Value
  under σ (Var x) = σ x
  under σ (Node f vs) = Node f (all_under σ vs)

  pub all_under : Assignment → Values → Values
  all_under σ NoMore = NoMore
  all_under σ (More v vs) = More (under σ v) (all_under σ vs)

-- It gives each bound variable what it is bound to.
abbrev pub Obeys : Assignment → Substitution → Type 0
Obeys σ [] = Unit {0}
Obeys σ (p ∷ S) = (σ p.0 ≡ under σ p.1) × Obeys σ S

-- Unifying extends the substitution.
abbrev pub UnifyingExtends : Type 0
UnifyingExtends = (S : Substitution) → (a b : Value) → IsSubstitution S → Extends S (unify S a b).subst

-- Where it agrees, the two values are equal when they are resolved.
abbrev pub UnifyingMakesEqual : Type 0
UnifyingMakesEqual = (S : Substitution) → (a b : Value) → IsSubstitution S → (unify S a b).agrees ≡ true →
    resolved (unify S a b).subst a ≡ resolved (unify S a b).subst b

-- Where any assignment that obeys the substitution makes the two values equal, unification agrees, and the assignment obeys what it has bound. So a
-- clash comes only where nothing makes them equal.
abbrev pub UnifyingIsMostGeneral : Type 0
UnifyingIsMostGeneral = (S : Substitution) → (a b : Value) → IsSubstitution S → (σ : Assignment) → Obeys σ S → under σ a ≡ under σ b →
    ((unify S a b).agrees ≡ true) × Obeys σ (unify S a b).subst

-- Values that are equal already unify, and nothing is bound.
abbrev pub EqualValuesUnify : Type 0
EqualValuesUnify = (S : Substitution) → (a b : Value) → IsSubstitution S → resolved S a ≡ resolved S b → ((unify S a b).agrees ≡ true) ×
    ((unify S a b).subst ≡ S)
