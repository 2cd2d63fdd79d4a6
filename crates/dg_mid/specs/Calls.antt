-- What calls are where rules are looked at. Hold it against docs/LANGUAGE.md, "Search", and the Dialog manual, chapter "Choice points".
use Rattle.std.specs.Prelude.{ℕ, ◌≡◌, ◌≤◌, List, [], ◌∷◌, length}
use Rattle.dg_base.specs.declared.program.Term.{Term}
use Rattle.dg_mid.specs.declared.code.Op.{Op}
use Rattle.dg_mid.specs.declared.code.Op.TheVariants as op
use Rattle.dg_mid.specs.declared.code.RuleCode.{RuleCode}
use Rattle.dg_mid.specs.declared.code.Code.{Code}
use Rattle.dg_mid.specs.Code.{block_at, rules_at}
use Rattle.dg_mid.specs.State.{Way, Goes, Takes, Calls, Tries, Choice, Status, Runs, Enters, Resumes, Fails, Ended}

-- ## Where they cut to

-- A call that is gone on with cuts to the height of the heap there.
abbrev pub WayCuts : ℕ → Way → Type 0
WayCuts h (Calls call rules) = call.cut.height ≡ h
WayCuts h way = Unit {0}

-- So does that of each of some choices, where it is gone back to.
abbrev pub ChoicesCut : List Choice → Type 0
ChoicesCut [] = Unit {0}
ChoicesCut (c ∷ cs) = WayCuts c.state.heap c.way × ChoicesCut cs

-- So it is in a status.
abbrev pub StatusCuts : Status → Type 0
StatusCuts (Runs m) = ChoicesCut m.choices
StatusCuts (Enters call m) = ChoicesCut m.choices
StatusCuts (Resumes way m) = WayCuts m.state.heap way × ChoicesCut m.choices
StatusCuts (Fails m) = ChoicesCut m.choices
StatusCuts (Ended e) = Unit {0}

-- ## Their arguments

-- Code begins with the entering of a rule whose head has so many terms.
pub record EntersWith (n : ℕ) (ops : List Op) : Type 0 where
  pub vars : ℕ
  pub head : List Term
  pub rest : List Op
  pub is : ops ≡ op.Enter vars head ∷ rest
  pub fits : length head ≡ n

-- So does the code of each of these rules.
abbrev pub AllEnterWith : ℕ → Code → List RuleCode → Type 0
AllEnterWith n code [] = Unit {0}
AllEnterWith n code (r ∷ rs) = EntersWith n (block_at code r.block) × AllEnterWith n code rs

-- So many arguments are few, and as many as these rules have.
abbrev pub FitRules : ℕ → Code → ℕ → List RuleCode → Type 0
FitRules n code args rules = (args ≤ n) × AllEnterWith args code rules

-- A query of a predicate fits its rules; one of objects has few arguments.
abbrev pub OpFits : ℕ → Code → Op → Type 0
OpFits n code (op.Ask pred terms many next) = FitRules n code (length terms) (rules_at code pred)
OpFits n code (op.LastAsk pred terms many) = FitRules n code (length terms) (rules_at code pred)
OpFits n code (op.Find place terms many next) = length terms ≤ n
OpFits n code x = Unit {0}

-- So it is with the code at hand.
abbrev pub FirstFits : ℕ → Code → List Op → Type 0
FirstFits n code [] = Unit {0}
FirstFits n code (x ∷ ops) = OpFits n code x

-- So it is with what a choice goes on with.
abbrev pub WayFits : ℕ → Code → Way → Type 0
WayFits n code (Goes b) = Unit {0}
WayFits n code (Takes b into) = Unit {0}
WayFits n code (Calls call rules) = FitRules n code (length call.args) rules
WayFits n code (Tries f objects) = length f.args ≤ n

abbrev pub ChoicesFit : ℕ → Code → List Choice → Type 0
ChoicesFit n code [] = Unit {0}
ChoicesFit n code (c ∷ cs) = WayFits n code c.way × ChoicesFit n code cs

-- So it is in a status, and with the rule that is entered.
abbrev pub StatusFits : ℕ → Code → Status → Type 0
StatusFits n code (Runs m) = FirstFits n code m.ops × ChoicesFit n code m.choices
StatusFits n code (Enters call m) = (length call.args ≤ n) × EntersWith (length call.args) m.ops × ChoicesFit n code m.choices
StatusFits n code (Resumes way m) = WayFits n code way × ChoicesFit n code m.choices
StatusFits n code (Fails m) = ChoicesFit n code m.choices
StatusFits n code (Ended e) = Unit {0}
