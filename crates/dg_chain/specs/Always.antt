-- What whole runs give of a status, beside what memory stands for. Hold it against dg_mid/specs/State.antt.
use Rattle.std.specs.Prelude.{◌≡◌, ℕ, ◌≤◌, List, [], ◌∷◌}
use Rattle.dg_base.specs.declared.program.Term.{Term}
use Rattle.dg_mid.specs.declared.code.Action.TheVariants as action
use Rattle.dg_mid.specs.declared.code.Code.{Code}
use Rattle.dg_mid.specs.declared.code.Gathered.{Gathered}
use Rattle.dg_mid.specs.declared.code.Op.{Op}
use Rattle.dg_mid.specs.declared.code.Op.TheVariants as op
use Rattle.dg_mid.specs.Code.{block_at, selected}
use Rattle.dg_mid.specs.State.{Place, Frame, Way, Goes, Takes, Calls, Tries, Mid, Status, Runs, Enters, Resumes, Fails, Ended}
use Rattle.dg_mid.specs.Step.{first_of}
use Rattle.dg_mid.specs.Heights.{StatusOrdered}
use Rattle.dg_mid.specs.Trails.{StatusTrailed}
use Rattle.dg_mid.specs.Calls.{StatusCuts, StatusFits}
use Rattle.dg_mid.specs.Seeking.{LeavesFirst}
use Rattle.dg_turn.specs.Rules.{keyed}

-- ## How it begins

-- Code that is run begins with none of the instructions that stand first in a block that is entered or gone back to.
abbrev pub MayRun : List Op → Type 0
MayRun [] = ⊥
MayRun (op.Retry alt ∷ ops) = ⊥
MayRun (op.TakeOut whole into ∷ ops) = ⊥
MayRun (op.Enter vars head ∷ ops) = ⊥
MayRun ops = Unit {0}

-- A list that isn't empty.
abbrev pub IsSome : {A : Type 0} → List A → Type 0
IsSome [] = ⊥
IsSome (x ∷ xs) = Unit {0}

-- Code that leaves an inner construct or a stoppable part stands in one.
abbrev pub StandsInside : List Op → List Place → Type 0
StandsInside (op.Commit ∷ ops) inner = IsSome inner
StandsInside (op.Refuse ∷ ops) inner = IsSome inner
StandsInside (op.Leave ∷ ops) inner = IsSome inner
StandsInside ops inner = Unit {0}

-- A block takes a gathering out first.
pub record TakesFirst (ops : List Op) : Type 0 where
  pub whole : Gathered
  pub into : Term
  pub rest : List Op
  pub is : ops ≡ op.TakeOut whole into ∷ rest

-- What a choice goes on with: a gathering is taken out first, and the first of some rules isn't excluded.
abbrev pub WayBegins : Code → Way → Mid → Type 0
WayBegins code (Goes b) m = Unit {0}
WayBegins code (Takes b into) m = TakesFirst (block_at code b)
WayBegins code (Calls call rules) m = selected (first_of m.state.subst call) rules ≡ rules
WayBegins code (Tries f objects) m = Unit {0}

-- So it is in a status.
abbrev pub StatusBegins : Code → Status → Type 0
StatusBegins code (Runs m) = MayRun m.ops × StandsInside m.ops m.inner
StatusBegins code (Enters call m) = Unit {0}
StatusBegins code (Resumes way m) = WayBegins code way m
StatusBegins code (Fails m) = Unit {0}
StatusBegins code (Ended e) = Unit {0}

-- ## In a rule

-- Code that cuts stands in a rule.
abbrev pub StandsIn : List Op → List Frame → Type 0
StandsIn (op.Do action.Just ∷ ops) frames = IsSome frames
StandsIn ops frames = Unit {0}

-- A choice goes on with at most so many rules that have a key.
abbrev pub FewRules : ℕ → Way → Type 0
FewRules n (Goes b) = Unit {0}
FewRules n (Takes b into) = Unit {0}
FewRules n (Calls call rules) = keyed rules ≤ n
FewRules n (Tries f objects) = Unit {0}

-- Both, in a status.
abbrev pub StatusStands : Status → Type 0
StatusStands (Runs m) = StandsIn m.ops m.frames
StatusStands (Enters call m) = Unit {0}
StatusStands (Resumes way m) = FewRules 2200 way
StatusStands (Fails m) = Unit {0}
StatusStands (Ended e) = Unit {0}

-- ## Objects that are tried

-- Where one answer is wanted, objects are tried where an inner construct is left first.
abbrev pub WayLeaves : Code → Way → Type 0
WayLeaves code (Goes b) = Unit {0}
WayLeaves code (Takes b into) = Unit {0}
WayLeaves code (Calls call rules) = Unit {0}
WayLeaves code (Tries f objects) = LeavesFirst code f.many f.next

-- So it is in a status.
abbrev pub StatusLeaves : Code → Status → Type 0
StatusLeaves code (Runs m) = Unit {0}
StatusLeaves code (Enters call m) = Unit {0}
StatusLeaves code (Resumes way m) = WayLeaves code way
StatusLeaves code (Fails m) = Unit {0}
StatusLeaves code (Ended e) = Unit {0}

-- ## All together

-- Heights and trails order places, a call that is gone on with cuts to where it is, calls have at most 12 arguments and as many as their rules, and code
-- begins and stands as it should; where objects are tried an inner construct is left first.
pub record Always (code : Code) (now : Status) : Type 0 where
  pub ordered : StatusOrdered now
  pub trailed : StatusTrailed now
  pub cuts : StatusCuts now
  pub fits : StatusFits 12 code now
  pub begins : StatusBegins code now
  pub stands : StatusStands now
  pub leaves : StatusLeaves code now
