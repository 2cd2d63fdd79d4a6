-- Rules that a first argument excludes do not match.
use Rattle.std.proofs.Common.{◌≡◌, List, [], ◌∷◌, true, false, Option, Some, None, refl, ap, ◌∙◌, map}
use Rattle.std.specs.Prelude.{not}
use Rattle.std.specs.List.{zip}
use Rattle.dg_base.specs.declared.program.Term.{Term, out-Term, Pair'}
use Rattle.dg_base.specs.declared.program.Term as place
use Rattle.dg_base.specs.declared.program.CoreProgram.{CoreProgram}
use Rattle.dg_meaning.specs.Values.{Label, Value, Var, Node, Values, NoMore, value_of}
use Rattle.dg_meaning.specs.Substitutions.{Substitution, walk}
use Rattle.dg_meaning.specs.inside.Substitutions.{IsSubstitution}
use Rattle.dg_meaning.specs.Unify.{same_label, Equations, Clashes, turn_of, turn, cost, Unified, clashed, counted, charged, after_turn, turns, solve}
use Rattle.dg_meaning.specs.Selection.{label_at, differs_from, excludes, first_excludes}
use Rattle.dg_meaning.specs.Moves.{vars_of}
use Rattle.dg_meaning.specs.inside.Excluding.{ExcludedRulesClash}
use Rattle.dg_meaning.proofs.LookUps.{walk_node}
use Rattle.dg_meaning.proofs.Solving.{solve_is}

-- a value has this label at its top, if it is one
record Labelled (f : Label) (v : Value) : Type 0 where
  pub parts : Values
  pub is : v ≡ Node f parts

abbrev HasTop : Option Label → Value → Type 0
HasTop None v = Unit {0}
HasTop (Some f) v = Labelled f v

has_top : (program : CoreProgram) (env : List Value) (t : Term) → HasTop (label_at (out-Term t)) (value_of program env t)
unfolding out-Term denote.Hole.Carrier.out
has_top program env (place.Num n) = record { parts = NoMore; is = refl }
has_top program env (place.Word n) = record { parts = NoMore; is = refl }
has_top program env (place.Object n) = record { parts = NoMore; is = refl }
has_top program env place.Nil = record { parts = NoMore; is = refl }
has_top program env (Pair' s head t tail) = record { parts = _; is = refl }
has_top program env (place.Var v) = tt
has_top program env (place.Closure c) = record { parts = _; is = refl }

differs : (f g : Label) → not (same_label f g) ≡ true → same_label f g ≡ false
differs f g h = elim (same_label f g) as (λ b. not b ≡ true → b ≡ false) [ true ↦ λ e. cc | false ↦ λ e. refl ] h

label_clash : (S : Substitution) (f : Label) (vs : Values) (o : Option Label) (v : Value) → HasTop o v → differs_from f o ≡ true → turn_of S (Node f vs) (walk S v) ≡ Clashes
label_clash S f vs None v top h = absurd (cc (h))
label_clash S f vs (Some g) v top h =
    ap (λ (x : Value). turn_of S (Node f vs) (walk S x)) top.is ∙ ap (turn_of S (Node f vs)) (walk_node S g top.parts) ∙ rw (differs f g h) refl

walked_clash : (S : Substitution) (program : CoreProgram) (env : List Value) (u : Value) (t : Term) (ts : List Term) → excludes u (t ∷ ts) ≡ true → turn_of S u (walk S (value_of program env t)) ≡ Clashes
walked_clash S program env (Var x) t ts h = absurd (cc (h))
walked_clash S program env (Node f vs) t ts h = label_clash S f vs (label_at (out-Term t)) (value_of program env t) (has_top program env t) h

none_excluded : (v : Value) → excludes v [] ≡ false
none_excluded (Var x) = refl
none_excluded (Node f vs) = refl

-- the first equation clashes
first_clash : (S : Substitution) (v u : Value) (es : Equations) → IsSubstitution S → turn S v u ≡ Clashes → solve S ((v, u) ∷ es) ≡ counted (cost S v u) (clashed S)
first_clash S v u es sound h = solve_is 1 S ((v, u) ∷ es) (counted (cost S v u) (clashed S)) sound (ap (λ x. charged (cost S v u) (after_turn (turns 0) S es x)) h)

solve_clash : (program : CoreProgram) (env : List Value) (S : Substitution) (args : List Value) (head : List Term) → IsSubstitution S → first_excludes S args head ≡ true → (solve S (zip args (map (value_of program env) head))).agrees ≡ false
solve_clash program env S [] head sound h = absurd (cc (h))
solve_clash program env S (v ∷ vs) [] sound h = absurd (cc (h, none_excluded (walk S v)))
solve_clash program env S (v ∷ vs) (t ∷ ts) sound h =
    ap (λ (u : Unified). u.agrees) (first_clash S v (value_of program env t) (zip vs (map (value_of program env) ts)) sound (walked_clash S program env (walk S v) t ts h))

pub excluded_rules_clash : ExcludedRulesClash
excluded_rules_clash g args r rule sound h = solve_clash g.program (vars_of rule r) r.bound args rule.head sound h
