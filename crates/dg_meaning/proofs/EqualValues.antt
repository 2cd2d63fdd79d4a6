-- Values that are equal already unify, and nothing is bound.
use Rattle.std.proofs.Common.{◌≡◌, ℕ, zero, suc, [], ◌∷◌, ◌++◌, true, refl, sym, ◌∙◌, subst, Option, Some, None}
use Rattle.std.proofs.lemmas.Bool.{eq-eqb}
use Rattle.dg_meaning.specs.Values.{Value, Var, Node, Values, NoMore, More}
use Rattle.dg_meaning.specs.Substitutions.{Substitution, walk, resolved}
use Rattle.dg_meaning.specs.inside.Substitutions.{all_resolved, IsSubstitution}
use Rattle.dg_meaning.specs.Unify.{same_label, Equations, as_many, side_by_side, Turn, Goes, Binds, Clashes, turn_of, turn, cost, Unified, charged, after_turn, turns, enough}
use Rattle.dg_meaning.specs.inside.Unifiers.{EqualValuesUnify}
use Rattle.dg_meaning.proofs.Walks.{resolved_unbound, resolved_node, Walked, walked}
use Rattle.dg_meaning.proofs.Solving.{solve_ends}
use Rattle.dg_meaning.proofs.Unifiers.{label_refl}
use Rattle.dg_meaning.proofs.UnifyLaws.{EqualUnder}

-- ## One turn

-- It leads to equations that hold already, and binds nothing.
abbrev IsSilent : Substitution → Turn → Type 0
IsSilent S (Goes parts) = EqualUnder S parts
IsSilent S (Binds x v) = ⊥
IsSilent S Clashes = ⊥

as_many_equal : (S : Substitution) (vs us : Values) → all_resolved S vs ≡ all_resolved S us → as_many vs us ≡ true
as_many_equal S NoMore NoMore h = refl
as_many_equal S NoMore (More u us) h = absurd (cc h)
as_many_equal S (More v vs) NoMore h = absurd (cc h)
as_many_equal S (More v vs) (More u us) h = as_many_equal S vs us cc

parts_equal : (S : Substitution) (vs us : Values) → all_resolved S vs ≡ all_resolved S us → EqualUnder S (side_by_side vs us)
parts_equal S NoMore us h = tt
parts_equal S (More v vs) NoMore h = tt
parts_equal S (More v vs) (More u us) h = (cc, parts_equal S vs us cc)

turn_silent : (S : Substitution) (a b v u : Value) → Walked S a v → Walked S b u → resolved S v ≡ resolved S u → IsSilent S (turn_of S v u)
turn_silent S a b (Var x) (Var y) wa wb h =
    let is : Var x ≡ Var y = sym (resolved_unbound S x (wa.free x refl)) ∙ h ∙ resolved_unbound S y (wb.free y refl) in
    let same : x ≡ y = cc in
    rw (eq-eqb x y same) tt
turn_silent S a b (Var x) (Node g us) wa wb h =
    let is : Var x ≡ Node g (all_resolved S us) = sym (resolved_unbound S x (wa.free x refl)) ∙ h ∙ resolved_node S g us in
    absurd (cc is)
turn_silent S a b (Node f vs) (Var y) wa wb h =
    let is : Var y ≡ Node f (all_resolved S vs) = sym (resolved_unbound S y (wb.free y refl)) ∙ sym h ∙ resolved_node S f vs in
    absurd (cc is)
turn_silent S a b (Node f vs) (Node g us) wa wb h =
    let is : Node f (all_resolved S vs) ≡ Node g (all_resolved S us) = sym (resolved_node S f vs) ∙ h ∙ resolved_node S g us in
    let labels : f ≡ g = cc in
    let parts : all_resolved S vs ≡ all_resolved S us = cc in
    let same : same_label f g ≡ true = subst (λ k. same_label f k ≡ true) labels (label_refl f) in
    rw (same, as_many_equal S vs us parts) (parts_equal S vs us parts)

-- ## All turns

-- Where they come to an end, nothing was bound.
abbrev EndsSilent : Substitution → Option Unified → Type 0
EndsSilent S None = Unit {0}
EndsSilent S (Some u) = (u.agrees ≡ true) × (u.subst ≡ S)

charged_silent : (S : Substitution) (c : ℕ) (r : Option Unified) → EndsSilent S r → EndsSilent S (charged c r)
charged_silent S c None h = h
charged_silent S c (Some u) h = h

equal_join : (S : Substitution) (xs ys : Equations) → EqualUnder S xs → EqualUnder S ys → EqualUnder S (xs ++ ys)
equal_join S [] ys hx hy = hy
equal_join S (x ∷ xs) ys hx hy = (hx.0, equal_join S xs ys hx.1 hy)

after_silent : (n : ℕ) → ((S : Substitution) (es : Equations) → IsSubstitution S → EqualUnder S es → EndsSilent S (turns n S es)) → (S : Substitution) (es : Equations) (t : Turn) → IsSubstitution S → EqualUnder S es → IsSilent S t → EndsSilent S (after_turn (turns n) S es t)
after_silent n ih S es (Goes parts) s equal h = ih S (parts ++ es) s (equal_join S parts es h equal)
after_silent n ih S es (Binds x v) s equal h = absurd h
after_silent n ih S es Clashes s equal h = absurd h

turns_silent : (n : ℕ) (S : Substitution) (es : Equations) → IsSubstitution S → EqualUnder S es → EndsSilent S (turns n S es)
turns_silent zero S es s equal = tt
turns_silent (suc n) S [] s equal = (refl, refl)
turns_silent (suc n) S (e ∷ es) s equal =
    let wa = walked S s e.0 in
    let wb = walked S s e.1 in
    charged_silent S (cost S e.0 e.1) (after_turn (turns n) S es (turn S e.0 e.1))
    (after_silent n (turns_silent n) S es (turn S e.0 e.1) s equal.1 (turn_silent S e.0 e.1 (walk S e.0) (walk S e.1) wa wb (wa.same ∙ equal.0 ∙ sym wb.same)))

pub equal_values : EqualValuesUnify
equal_values S a b s equal = subst (EndsSilent S) (solve_ends S ((a, b) ∷ []) s) (turns_silent (enough S ((a, b) ∷ [])) S ((a, b) ∷ []) s (equal, tt))
