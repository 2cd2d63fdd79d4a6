-- The programs that the interpreter runs: every sound one. Hold the forms against those of `Goal` in dg_base.
use Rattle.std.specs.Prelude.{◌≤◌, List}
use Rattle.std.specs.List.{All}
use Rattle.dg_base.specs.declared.program.Goal.{Goal, Goal-F, out-Goal}
use Rattle.dg_base.specs.declared.program.Goal.TheOpen.{Text, Print, Gap, GapN, Equal, Ask, Holds, IsObject, Now, Query, Either, Once, Not, If, Just, Fail, Stop, Quit, Forever, Exhaust, Stoppable, Select, Compare, Test, Arith, Random, Input, SplitWord, JoinWords, Collect, Accumulate}
use Rattle.dg_base.specs.declared.program.Rule.{Rule}
use Rattle.dg_base.specs.declared.program.ClosureBody.{ClosureBody}
use Rattle.dg_base.specs.declared.program.Pred.{Pred}
use Rattle.dg_base.specs.declared.program.CoreProgram.{CoreProgram}
use Rattle.dg_base.specs.Goals.{all_goals_of}

-- Text, a printed value, a gap, spaces, an equation, a query of a predicate, of a place, of objects or of a closure, a change, a choice between
-- goals, a first answer, a negation, a condition, a cut, a failure, an end, an endless choice, a test, a comparison, a calculation, a random number,
-- a line that is read, a word that is split, words that are joined, all answers of goals, a value for each of them as a list or a sum, a stoppable
-- part, a select, and a stop: these are all forms.
abbrev pub IsForm : Goal-F Goal → Type 0
IsForm (Text name) = Unit {0}
IsForm (Print a) = Unit {0}
IsForm (Gap kind) = Unit {0}
IsForm (GapN a) = Unit {0}
IsForm (Equal a b) = Unit {0}
IsForm (Ask pred args many) = Unit {0}
IsForm (Holds place args many) = Unit {0}
IsForm (IsObject a many) = Unit {0}
IsForm (Now place args sets) = Unit {0}
IsForm (Query a b many) = Unit {0}
IsForm (Either lists) = Unit {0}
IsForm (Once goals) = Unit {0}
IsForm (Not goals) = Unit {0}
IsForm (If test first other) = Unit {0}
IsForm Just = Unit {0}
IsForm Fail = Unit {0}
IsForm Quit = Unit {0}
IsForm Forever = Unit {0}
IsForm (Test kind a) = Unit {0}
IsForm (Compare op a b) = Unit {0}
IsForm (Arith op a b c) = Unit {0}
IsForm (Random a b c) = Unit {0}
IsForm (Input a) = Unit {0}
IsForm (SplitWord a b) = Unit {0}
IsForm (JoinWords a b) = Unit {0}
IsForm (Exhaust goals) = Unit {0}
IsForm (Collect term goals into) = Unit {0}
IsForm (Accumulate term goals into) = Unit {0}
IsForm (Stoppable goals) = Unit {0}
IsForm (Select site mode lists) = Unit {0}
IsForm Stop = Unit {0}

-- A goal of one of these forms.
abbrev pub IsRunnableGoal : Goal → Type 0
IsRunnableGoal g = IsForm (out-Goal g)

-- Goals that are all runnable, at every depth.
abbrev pub AreRunnable : List Goal → Type 0
AreRunnable goals = All IsRunnableGoal (all_goals_of goals)

-- A rule whose goals are runnable.
abbrev pub IsRunnableRule : Rule → Type 0
IsRunnableRule rule = AreRunnable rule.body

-- A closure whose goals are runnable, with its parameter among its own variables.
pub record IsRunnableBody (closure : ClosureBody) : Type 0 where
  pub parameter : 1 ≤ closure.own
  pub body : AreRunnable closure.body

-- All rules and closures of a program are runnable.
pub record IsRunnable (p : CoreProgram) : Type 0 where
  pub preds : All (λ (pred : Pred). All IsRunnableRule pred.rules) p.preds
  pub closures : All IsRunnableBody p.closures
