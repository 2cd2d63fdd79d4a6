-- Which programs have goals and heads of few terms: hold it against docs/LANGUAGE.md, "Limits".
use Rattle.std.specs.Prelude.{ℕ, ◌≤◌, length}
use Rattle.std.specs.List.{All}
use Rattle.dg_base.specs.declared.program.ClosureBody.{ClosureBody}
use Rattle.dg_base.specs.declared.program.CoreProgram.{CoreProgram}
use Rattle.dg_base.specs.declared.program.Goal.{Goal, out-Goal}
use Rattle.dg_base.specs.declared.program.Goal.TheOpen as form
use Rattle.dg_base.specs.declared.program.Pred.{Pred}
use Rattle.dg_base.specs.declared.program.Rule.{Rule}
use Rattle.dg_base.specs.Goals.{all_goals_of, terms_held}

-- The head of each rule has at most so many terms.
abbrev pub HeadsAreFew : ℕ → CoreProgram → Type 0
HeadsAreFew n program = All (λ (pred : Pred). All (λ (rule : Rule). length rule.head ≤ n) pred.rules) program.preds

-- A goal holds at most so many terms itself: a query's are its arguments.
abbrev pub HoldsFew : ℕ → Goal → Type 0
HoldsFew n x = length (terms_held (out-Goal x)) ≤ n

-- So does each goal of a program, at every depth.
pub record AllHoldFew (n : ℕ) (program : CoreProgram) : Type 0 where
  pub preds : All (λ (pred : Pred). All (λ (rule : Rule). All (HoldsFew n) (all_goals_of rule.body)) pred.rules) program.preds
  pub closures : All (λ (closure : ClosureBody). All (HoldsFew n) (all_goals_of closure.body)) program.closures

-- A query of a predicate has at most so many arguments.
abbrev pub FormAsksFew : ℕ → form.Goal-F Goal → Type 0
FormAsksFew n (form.Ask pred args many) = length args ≤ n
FormAsksFew n goal = Unit {0}

abbrev pub AsksFew : ℕ → Goal → Type 0
AsksFew n x = FormAsksFew n (out-Goal x)

-- So has each in a program, at every depth.
pub record AllAskFew (n : ℕ) (program : CoreProgram) : Type 0 where
  pub preds : All (λ (pred : Pred). All (λ (rule : Rule). All (AsksFew n) (all_goals_of rule.body)) pred.rules) program.preds
  pub closures : All (λ (closure : ClosureBody). All (AsksFew n) (all_goals_of closure.body)) program.closures
