-- The code of a sound program, whose goals and heads have few terms, is code that a machine runs.
use Rattle.std.proofs.Common.{◌≡◌, ℕ, ◌≤◌, List, [], ◌∷◌, length, Some, None, Bool, true, false, refl, arith}
use Rattle.std.specs.Prelude.{nat_lt, replicate}
use Rattle.std.specs.List.{All}
use Rattle.std.proofs.lemmas.Bool.{ltb-true, lt-ltb}
use Rattle.std.proofs.lemmas.List.{length-replicate}
use Rattle.std.proofs.lemmas.List.Elements.{All-head, All-tail}
use Rattle.dg_base.specs.declared.program.ClosureBody.{ClosureBody}
use Rattle.dg_base.specs.declared.program.CoreProgram.{CoreProgram}
use Rattle.dg_base.specs.declared.program.Goal.{Goal, out-Goal}
use Rattle.dg_base.specs.declared.program.Goal.TheOpen as form
use Rattle.dg_base.specs.declared.program.Pred.{Pred}
use Rattle.dg_base.specs.declared.program.Rule.{Rule}
use Rattle.dg_base.specs.declared.program.Term.{Term}
use Rattle.dg_base.specs.Goals.{all_goals_of, terms_held}
use Rattle.dg_base.specs.Sound.{IsSound, FitsProgram, IsGoalOf, IsRuleOf, IsClosureOf, IsPredOf, closure_vars}
use Rattle.dg_meaning.specs.Few.{HeadsAreFew, AllHoldFew, HoldsFew}
use Rattle.dg_mid.specs.declared.code.Action.TheVariants as action
use Rattle.dg_mid.specs.declared.code.Code.{Code}
use Rattle.dg_mid.specs.declared.code.Op.{Op}
use Rattle.dg_mid.specs.declared.code.Op.TheVariants as op
use Rattle.dg_mid.specs.Code.{block_at}
use Rattle.dg_mid.specs.Passing.{Tests, GoalPasses, GoalsPass, RulesPass, PredsPass, ClosuresPass, ProgramPasses, OpPasses, OpsPass}
use Rattle.dg_mid.specs.Seeking.{BlocksLeave}
use Rattle.dg_mid.specs.Weights.{Weights, IsLight}
use Rattle.dg_mid.proofs.Passing.{code_passes}
use Rattle.dg_machine.specs.Built.{OpBuilt, OpsBuilt, IsBuilt}

-- ## Tests

abbrev are_few : List Term → Bool
are_few terms = nat_lt (length terms) 13

abbrev goal_few : form.Goal-F Goal → Bool
goal_few form.Forever = false
goal_few (form.Select site mode lists) = nat_lt (length lists) 501
goal_few layer = are_few (terms_held layer)

abbrev tests : Tests
tests = record { goal = goal_few; head = λ vars head. are_few head; gathers = true }

-- ## What passes is built

few_so : (terms : List Term) → are_few terms ≡ true → length terms ≤ 12
few_so terms e = let lt = ltb-true (length terms) 13 e in omega arith

op_built : (x : Op) → OpPasses tests x → OpBuilt x
op_built (op.Do (action.Now place terms sets)) e = few_so terms e
op_built (op.Ask pred terms many next) e = few_so terms e
op_built (op.LastAsk pred terms many) e = few_so terms e
op_built (op.Find (Some place) terms many next) e = few_so terms e
op_built (op.Find None [] many next) e = omega arith
op_built (op.Find None (t ∷ []) many next) e = few_so (t ∷ []) e
op_built (op.Find None (t ∷ u ∷ ts) many next) e = let no : false ≡ true = e in absurd (cc no)
op_built (op.Select site mode blocks behind) e =
    let few = ltb-true (length (replicate {A = List Goal} (length blocks) [])) 501 e in
    let long = length-replicate {A = List Goal} (length blocks) [] in
    omega arith
op_built (op.Enter vars head) e = few_so head e
op_built (op.Do a) e = tt
op_built x e = tt

ops_built : (ops : List Op) → OpsPass tests ops → OpsBuilt ops
ops_built [] e = tt
ops_built (x ∷ ops) e = (op_built x e.0, ops_built ops e.1)

-- ## What a sound program passes

few_pass : (terms : List Term) → length terms ≤ 12 → are_few terms ≡ true
few_pass terms few = lt-ltb (length terms) 13 (omega arith)

layer_passes : (p : CoreProgram) (layer : form.Goal-F Goal) → FitsProgram p layer → length (terms_held layer) ≤ 12 → GoalPasses tests layer
layer_passes p (form.Select site mode lists) fits few =
    let short = fits.2 in
    lt-ltb (length (replicate {A = List Goal} (length lists) [])) 501 (omega (arith, length-replicate {A = List Goal} (length lists) []))
layer_passes p (form.Either lists) fits few = tt
layer_passes p (form.Once goals) fits few = tt
layer_passes p (form.Not goals) fits few = tt
layer_passes p (form.If a b c) fits few = tt
layer_passes p (form.Exhaust goals) fits few = tt
layer_passes p (form.Stoppable goals) fits few = tt
layer_passes p form.Forever fits few = tt
layer_passes p (form.Collect a goals b) fits few = (few_pass (a ∷ b ∷ []) few, refl)
layer_passes p (form.Accumulate a goals b) fits few = (few_pass (a ∷ b ∷ []) few, refl)
layer_passes p layer fits few = few_pass (terms_held layer) few

module _ (p : CoreProgram) where
  goals_pass : (vars : ℕ) (gs : List Goal) → All (IsGoalOf p vars) gs → All (HoldsFew 12) gs → GoalsPass tests gs
  goals_pass vars [] all few = tt
  goals_pass vars (g ∷ gs) all few = (
    layer_passes p (out-Goal g) (All-head (IsGoalOf p vars) g gs all).fits (All-head (HoldsFew 12) g gs few),
    goals_pass vars gs (All-tail (IsGoalOf p vars) g gs all) (All-tail (HoldsFew 12) g gs few),
  )

  abbrev HeadFew : Rule → Type 0
  HeadFew rule = length rule.head ≤ 12

  abbrev BodyFew : Rule → Type 0
  BodyFew rule = All (HoldsFew 12) (all_goals_of rule.body)

  rules_pass : (rs : List Rule) → All (IsRuleOf p) rs → All HeadFew rs → All BodyFew rs → RulesPass tests rs
  rules_pass [] all heads bodies = tt
  rules_pass (rule ∷ rs) all heads bodies = (
    few_pass rule.head (All-head HeadFew rule rs heads),
    goals_pass rule.vars (all_goals_of rule.body) (All-head (IsRuleOf p) rule rs all).body (All-head BodyFew rule rs bodies),
    rules_pass rs (All-tail (IsRuleOf p) rule rs all) (All-tail HeadFew rule rs heads) (All-tail BodyFew rule rs bodies),
  )

  abbrev HeadsFew : Pred → Type 0
  HeadsFew pred = All HeadFew pred.rules

  abbrev BodiesFew : Pred → Type 0
  BodiesFew pred = All BodyFew pred.rules

  preds_pass : (ps : List Pred) → All (IsPredOf p) ps → All HeadsFew ps → All BodiesFew ps → PredsPass tests ps
  preds_pass [] all heads bodies = tt
  preds_pass (pred ∷ ps) all heads bodies = (
    rules_pass pred.rules (All-head (IsPredOf p) pred ps all).rules (All-head HeadsFew pred ps heads) (All-head BodiesFew pred ps bodies),
    preds_pass ps (All-tail (IsPredOf p) pred ps all) (All-tail HeadsFew pred ps heads) (All-tail BodiesFew pred ps bodies),
  )

  abbrev ClosureFew : ClosureBody → Type 0
  ClosureFew closure = All (HoldsFew 12) (all_goals_of closure.body)

  closures_pass : (cs : List ClosureBody) → All (IsClosureOf p) cs → All ClosureFew cs → ClosuresPass tests cs
  closures_pass [] all few = tt
  closures_pass (c ∷ cs) all few = (
    goals_pass (closure_vars c) (all_goals_of c.body) (All-head (IsClosureOf p) c cs all).body (All-head ClosureFew c cs few),
    closures_pass cs (All-tail (IsClosureOf p) c cs all) (All-tail ClosureFew c cs few),
  )

  program_passes : IsSound p → HeadsAreFew 12 p → AllHoldFew 12 p → ProgramPasses tests p
  program_passes sound heads goals =
      record { entry = refl; preds = preds_pass p.preds sound.preds heads goals.preds; closures = closures_pass p.closures sound.closures goals.closures }

  pub code_built : IsSound p → AllHoldFew 12 p → HeadsAreFew 12 p → (code : Code) → ((w : Weights) → IsLight w p code) → BlocksLeave code → IsBuilt code
  code_built sound goals heads code light leave = record {
    blocks = λ b. ops_built (block_at code b) (code_passes tests p code light (program_passes sound heads goals) b);
    leave = leave;
  }
