-- A first argument excludes the same rules by their keys and by their heads.
use Rattle.std.specs.Prelude.{◌+◌, slice_get, if◌then◌else◌}
use Rattle.std.proofs.Common.{◌≡◌, List, [], ◌∷◌, Some, refl, sym, ap, subst, length}
use Rattle.std.proofs.lemmas.Bool.{cond_both}
use Rattle.dg_base.specs.declared.program.Term.{Term}
use Rattle.dg_base.specs.declared.program.Rule.{Rule}
use Rattle.dg_meaning.specs.Values.{Value, Var, Node}
use Rattle.dg_meaning.specs.Substitutions.{Substitution, walk}
use Rattle.dg_meaning.specs.Selection.{differs_from, excludes, first_excludes, from_candidate}
use Rattle.dg_meaning.specs.Moves.{choice_cells}
use Rattle.dg_mid.specs.declared.code.Key.{Key}
use Rattle.dg_mid.specs.declared.code.RuleCode.{RuleCode}
use Rattle.dg_mid.specs.declared.code.Code.{Code}
use Rattle.dg_mid.specs.Code.{label_of, first_label, excluded, selected}
use Rattle.dg_mid.specs.State.{Call}
use Rattle.dg_mid.specs.Step.{walked, first_of}
use Rattle.dg_mid.specs.Codes.{RulesStand}

one_excluded : (w : Value) (k : Key) (head : List Term) → label_of k ≡ first_label head → excluded (Some w) k ≡ excludes w head
one_excluded (Var x) k head e = refl
one_excluded (Node f vs) k [] e = ap (differs_from f) e
one_excluded (Node f vs) k (t ∷ ts) e = ap (differs_from f) e

excluded_args : (S : Substitution) (args : List Value) (k : Key) (head : List Term) → label_of k ≡ first_label head → excluded (walked S (slice_get args 0)) k ≡ first_excludes S args head
excluded_args S [] k head e = refl
excluded_args S (v ∷ vs) k head e = one_excluded (walk S v) k head e

pub excluded_is : (S : Substitution) (call : Call) (k : Key) (head : List Term) → label_of k ≡ first_label head → excluded (first_of S call) k ≡ first_excludes S call.args head
excluded_is S call k head e = excluded_args S call.args k head e

-- where a rule is left that isn't excluded, the choice takes its cells
pub cells_left : (S : Substitution) (code : Code) (call : Call) (cs : List RuleCode) (rules : List Rule) (later : RuleCode) (laters : List RuleCode) → RulesStand code cs rules → later ∷ laters ≡ selected (first_of S call) cs → choice_cells (length call.args) (from_candidate S call.args rules) ≡ 10 + length call.args
cells_left S code call [] rules later laters stand e = absurd (cc (e))
cells_left S code call (c ∷ cs) [] later laters stand e = absurd stand
cells_left S code call (c ∷ cs) (rule ∷ rules) later laters stand e =
    let same = excluded_is S call c.key rule.head stand.0.key_is in
    subst (λ b. choice_cells (length call.args) (if b then from_candidate S call.args rules else rule ∷ rules) ≡ 10 + length call.args) same
    (cond_both (excluded (first_of S call) c.key) (selected (first_of S call) cs) (c ∷ cs) (λ l. later ∷ laters ≡ l → choice_cells (length call.args) (if excluded (first_of S call) c.key then from_candidate S call.args rules else rule ∷ rules) ≡ 10 + length call.args)
    (λ t h. subst (λ b. choice_cells (length call.args) (if b then from_candidate S call.args rules else rule ∷ rules) ≡ 10 + length call.args) (sym t) (cells_left S code call cs rules later laters stand.1 h))
    (λ t h. subst (λ b. choice_cells (length call.args) (if b then from_candidate S call.args rules else rule ∷ rules) ≡ 10 + length call.args) (sym t) refl)
    e)
