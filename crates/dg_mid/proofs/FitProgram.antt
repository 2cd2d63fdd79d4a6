-- What a sound program and its code have to fit.
use Rattle.std.proofs.Common.{ℕ, zero, suc, ◌≤◌, List, [], ◌∷◌, Option, Some, None, Bool, false, sym, ap, subst, arith, length, get_or}
use Rattle.std.specs.List.{All}
use Rattle.std.specs.Prelude.{slice_get}
use Rattle.dg_base.specs.Goals.{all_goals_of, terms_held}
use Rattle.dg_base.proofs.NodeLemmas.{inside as inside_of}
use Rattle.dg_base.specs.Sound.{IsGoalOf, IsPredOf, IsRuleOf, IsClosureOf, IsEntry, FitsHeads, FitsProgram, closure_vars, IsSound}
use Rattle.dg_base.specs.declared.program.ClosureBody.{ClosureBody}
use Rattle.dg_base.specs.declared.program.Goal.{Goal}
use Rattle.dg_base.specs.declared.program.Goal.TheVariants as goal
use Rattle.dg_base.specs.declared.program.Pred.{Pred}
use Rattle.dg_base.specs.declared.program.Rule.{Rule}
use Rattle.dg_base.specs.declared.program.Term.{Term}
use Rattle.dg_meaning.specs.Few.{HoldsFew, AllHoldFew}
use Rattle.dg_meaning.specs.Moves.{rules_of}
use Rattle.dg_meaning.specs.Values.{Closure, Value, Values, Node}
use Rattle.dg_meaning.specs.World.{Game}
use Rattle.dg_mid.specs.declared.code.Op.{Op}
use Rattle.dg_mid.specs.declared.code.RuleCode.{RuleCode}
use Rattle.dg_mid.specs.declared.code.BodyCode.{BodyCode}
use Rattle.dg_mid.specs.Code.{block_at, rules_at}
use Rattle.dg_mid.specs.Codes.{Returns, Stands, returns, BodyStands, Codes}
use Rattle.dg_mid.specs.declared.code.Code.{Code}
use Rattle.dg_mid.specs.State.{Target, ToPred, ToBody}
use Rattle.dg_mid.specs.Step.{body_of, closure_at}
use Rattle.dg_mid.proofs.Deep.{Each, first_deep, made_deep}
use Rattle.dg_mid.proofs.FitCode as fit
use Rattle.dg_mid.proofs.FitCode.{heads_fit, tail, rules_fit}

module _ (g : Game) (n : ℕ) (code : Code) (codes : Codes g.program code) (sound : IsSound g.program) (few : AllHoldFew n g.program) where
  abbrev GoalFits : Goal → Type 0
  GoalFits x = fit.GoalFits g n code x

  abbrev AreFit : List Goal → Type 0
  AreFit gs = fit.AreFit g n code gs

  abbrev CodeFits : List Op → Type 0
  CodeFits ops = fit.CodeFits g n code ops

  abbrev RulesFit : ℕ → List RuleCode → Type 0
  RulesFit k rules = fit.RulesFit g n code k rules

  -- ## What the program has

  goals_are : (vars : ℕ) (gs : List Goal) → All (IsGoalOf g.program vars) gs → All (HoldsFew n) gs → Each GoalFits gs
  goals_are vars [] a b = tt
  goals_are vars (x ∷ xs) a b = (((a 0 x (omega arith)).fits, b 0 x (omega arith)), goals_are vars xs (tail g n code (IsGoalOf g.program vars) x xs a) (tail g n code (HoldsFew n) x xs b))

  -- a rule holds few terms in each goal
  abbrev RuleFew : Rule → Type 0
  RuleFew rule = All (HoldsFew n) (all_goals_of rule.body)

  abbrev PredFew : Pred → Type 0
  PredFew pred = All RuleFew pred.rules

  abbrev BodyFits : Rule → Type 0
  BodyFits rule = AreFit rule.body

  rules_are : (rules : List Rule) → All (IsRuleOf g.program) rules → All RuleFew rules → All BodyFits rules
  rules_are rules a b k d lt = let rule = get_or rules k d in goals_are rule.vars (all_goals_of rule.body) (a k d lt).body (b k d lt)

  preds_are : (preds : List Pred) (i : ℕ) → All (IsPredOf g.program) preds → All PredFew preds → All BodyFits (rules_of (slice_get preds i))
  preds_are [] i a b = λ k d lt. absurd (omega (arith, lt))
  preds_are (x ∷ preds) zero a b = rules_are x.rules (a 0 x (omega arith)).rules (b 0 x (omega arith))
  preds_are (x ∷ preds) (suc i) a b = preds_are preds i (tail g n code (IsPredOf g.program) x preds a) (tail g n code PredFew x preds b)

  pub pred_fits : (pred k : ℕ) → FitsHeads k (slice_get g.program.preds pred) → RulesFit k (rules_at code pred)
  pred_fits pred k h = rules_fit g n code k (rules_at code pred) (rules_of (slice_get g.program.preds pred)) (codes.rules pred) (heads_fit g n code k (slice_get g.program.preds pred) h) (preds_are g.program.preds pred sound.preds few.preds)

  abbrev ClosureFew : ClosureBody → Type 0
  ClosureFew closure = All (HoldsFew n) (all_goals_of closure.body)

  abbrev ClosureIs : Option ClosureBody → Type 0
  ClosureIs None = Unit {0}
  ClosureIs (Some closure) = AreFit closure.body

  closures_are : (closures : List ClosureBody) (i : ℕ) → All (IsClosureOf g.program) closures → All ClosureFew closures → ClosureIs (slice_get closures i)
  closures_are [] i a b = tt
  closures_are (x ∷ xs) zero a b = goals_are (closure_vars x) (all_goals_of x.body) (a 0 x (omega arith)).body (b 0 x (omega arith))
  closures_are (x ∷ xs) (suc i) a b = closures_are xs i (tail g n code (IsClosureOf g.program) x xs a) (tail g n code ClosureFew x xs b)

  -- what is asked with so many arguments fits
  abbrev pub TargetFits : ℕ → Target → Type 0
  TargetFits k (ToPred pred) = RulesFit k (rules_at code pred)
  TargetFits k (ToBody c captured) = CodeFits (block_at code c.block)

  abbrev pub IfTarget : ℕ → Option Target → Type 0
  IfTarget k None = Unit {0}
  IfTarget k (Some t) = TargetFits k t

  body_is : (k : ℕ) (o : Option BodyCode) (q : Option ClosureBody) (parts : Values) → BodyStands code o q → ClosureIs q → IfTarget k (body_of o parts)
  body_is k None q parts h c = tt
  body_is k (Some b) None parts h c = absurd h
  body_is k (Some b) (Some closure) parts h c = record { goals = closure.body; end = Returns; stands = h.1; fit = c; ends = tt }

  pub asked_is : (k : ℕ) (v : Value) → IfTarget k (closure_at code v)
  asked_is k (Node (Closure place) parts) = body_is k (slice_get code.closures place) (slice_get g.program.closures place) parts (codes.bodies place) (closures_are g.program.closures place sound.closures few.closures)
  asked_is k v = tt

  -- the code that answers a rule
  pub answers : CodeFits (block_at code 0)
  answers = record { goals = []; end = Returns; stands = subst (λ l. Stands code l [] Returns) (sym codes.answers) (returns []); fit = tt; ends = tt }

  -- what holds of a query of a predicate
  pub ask_fits : (pred : ℕ) (terms : List Term) (many : Bool) (gs : List Goal) → AreFit (goal.Ask pred terms many ∷ gs) → (length terms ≤ n) × RulesFit (length terms) (rules_at code pred)
  ask_fits pred terms many gs h =
      let is = goal.outs-Ask pred terms many in
      let x = first_deep GoalFits (goal.Ask pred terms many) gs h in
      (subst (λ l. length (terms_held l) ≤ n) is x.1, pred_fits pred (length terms) (subst (FitsProgram g.program) is x.0))

  -- the entry has no parameters
  entry_fits : (pred : Option Pred) → IsEntry pred → FitsHeads 0 pred
  entry_fits None h = absurd h
  entry_fits (Some pred) h = λ k rule lt. ap length (h k rule lt)

  pub start_fits : AreFit (goal.Ask g.program.entry [] false ∷ [])
  start_fits =
      let x = goal.Ask g.program.entry [] false in
      let is = goal.outs-Ask g.program.entry [] false in
      made_deep GoalFits x [] (subst (FitsProgram g.program) (sym is) (entry_fits (slice_get g.program.preds g.program.entry) sound.entry), subst (λ l. length (terms_held l) ≤ n) (sym is) (omega arith)) (subst (λ l. Each GoalFits (inside_of l)) (sym is) tt) tt
