-- What the instructions of code pass, where the goals and heads that it is written of pass it. Hold it against the Dialog manual, chapter "Control flow".
use Rattle.std.specs.Prelude.{◌≡◌, ℕ, List, [], ◌∷◌, Bool, true, false, length}
use Rattle.dg_base.specs.declared.program.ClosureBody.{ClosureBody}
use Rattle.dg_base.specs.declared.program.CoreProgram.{CoreProgram}
use Rattle.dg_base.specs.declared.program.Goal.{Goal, out-Goal}
use Rattle.dg_base.specs.declared.program.Goal.TheOpen as form
use Rattle.dg_base.specs.declared.program.Pred.{Pred}
use Rattle.dg_base.specs.declared.program.Rule.{Rule}
use Rattle.dg_base.specs.declared.program.Term.{Term}
use Rattle.dg_base.specs.Goals.{all_goals_of}
use Rattle.dg_mid.specs.declared.code.Code.{Code}
use Rattle.dg_mid.specs.declared.code.Op.{Op}
use Rattle.dg_mid.specs.declared.code.Op.TheVariants as op
use Rattle.dg_mid.specs.Actions.{form_of}
use Rattle.dg_mid.specs.Code.{block_at}
use Rattle.dg_mid.specs.Weights.{Weights, found_form, chooses, bare, IsLight}

-- Tests of a goal with nothing in its lists, of the variables and the head of a rule, and whether anything may be gathered.
pub record Tests : Type 0 where
  pub goal : form.Goal-F Goal → Bool
  pub head : ℕ → List Term → Bool
  pub gathers : Bool

-- ## Goals

-- A goal passes; one that only holds lists always does.
abbrev pub GoalPasses : Tests → form.Goal-F Goal → Type 0
GoalPasses tests (form.Either lists) = Unit {0}
GoalPasses tests (form.Once goals) = Unit {0}
GoalPasses tests (form.Not goals) = Unit {0}
GoalPasses tests (form.If test first other) = Unit {0}
GoalPasses tests (form.Exhaust goals) = Unit {0}
GoalPasses tests (form.Stoppable goals) = Unit {0}
GoalPasses tests form.Forever = Unit {0}
GoalPasses tests (form.Collect a goals b) = (tests.goal (form.Collect a [] b) ≡ true) × (tests.gathers ≡ true)
GoalPasses tests (form.Accumulate a goals b) = (tests.goal (form.Collect a [] b) ≡ true) × (tests.gathers ≡ true)
GoalPasses tests goal = tests.goal (bare goal) ≡ true

-- So does each of some goals.
abbrev pub GoalsPass : Tests → List Goal → Type 0
GoalsPass tests [] = Unit {0}
GoalsPass tests (goal ∷ goals) = GoalPasses tests (out-Goal goal) × GoalsPass tests goals

-- The head of each of some rules passes, and each goal of its body, at every depth.
abbrev pub RulesPass : Tests → List Rule → Type 0
RulesPass tests [] = Unit {0}
RulesPass tests (rule ∷ rules) = (tests.head rule.vars rule.head ≡ true) × GoalsPass tests (all_goals_of rule.body) × RulesPass tests rules

abbrev pub PredsPass : Tests → List Pred → Type 0
PredsPass tests [] = Unit {0}
PredsPass tests (pred ∷ preds) = RulesPass tests pred.rules × PredsPass tests preds

abbrev pub ClosuresPass : Tests → List ClosureBody → Type 0
ClosuresPass tests [] = Unit {0}
ClosuresPass tests (closure ∷ closures) = GoalsPass tests (all_goals_of closure.body) × ClosuresPass tests closures

-- So do the rules and closures of a program, and the query of its entry.
pub record ProgramPasses (tests : Tests) (program : CoreProgram) : Type 0 where
  pub entry : tests.goal (form.Ask program.entry [] false) ≡ true
  pub preds : PredsPass tests program.preds
  pub closures : ClosuresPass tests program.closures

-- ## Code

-- An instruction passes where its goal or head does; one that only goes on always does.
abbrev pub OpPasses : Tests → Op → Type 0
OpPasses tests (op.Do a) = tests.goal (form_of a) ≡ true
OpPasses tests (op.Ask pred terms many next) = tests.goal (form.Ask pred terms many) ≡ true
OpPasses tests (op.LastAsk pred terms many) = tests.goal (form.Ask pred terms many) ≡ true
OpPasses tests (op.Query a b many next) = tests.goal (form.Query a b many) ≡ true
OpPasses tests (op.LastQuery a b many) = tests.goal (form.Query a b many) ≡ true
OpPasses tests (op.Find place terms many next) = tests.goal (found_form place terms many) ≡ true
OpPasses tests (op.Select site mode blocks behind) = tests.goal (chooses site mode (length blocks)) ≡ true
OpPasses tests (op.Collect term into alt) = tests.goal (form.Collect term [] into) ≡ true
OpPasses tests (op.TakeOut whole into) = tests.gathers ≡ true
OpPasses tests (op.Keep term) = tests.gathers ≡ true
OpPasses tests (op.Enter vars head) = tests.head vars head ≡ true
OpPasses tests x = Unit {0}

-- So does each of some instructions.
abbrev pub OpsPass : Tests → List Op → Type 0
OpsPass tests [] = Unit {0}
OpsPass tests (x ∷ ops) = OpPasses tests x × OpsPass tests ops

-- Code that takes no more room than its program has, whatever its parts weigh, passes what the program passes.
abbrev pub CodePasses : Type 0
CodePasses = (tests : Tests) (program : CoreProgram) (code : Code) → ((w : Weights) → IsLight w program code) → ProgramPasses tests program →
    (b : ℕ) → OpsPass tests (block_at code b)
