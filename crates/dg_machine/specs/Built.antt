-- The code that a machine runs. Hold it against the README.
use Rattle.std.specs.Prelude.{ℕ, ◌≤◌, List, [], ◌∷◌, length}
use Rattle.dg_base.specs.declared.program.Term.{Term}
use Rattle.dg_base.specs.declared.program.Term.TheOpen as term
use Rattle.dg_mid.specs.declared.code.Op.{Op}
use Rattle.dg_mid.specs.declared.code.Op.TheVariants as op
use Rattle.dg_mid.specs.declared.code.Action.{Action}
use Rattle.dg_mid.specs.declared.code.Action.TheVariants as action
use Rattle.dg_mid.specs.declared.code.Code.{Code}
use Rattle.dg_mid.specs.Code.{block_at}
use Rattle.dg_mid.specs.Seeking.{OpsLeave}

-- A term that isn't a pair.
abbrev pub IsNoPair : term.Term-F Term → Type 0
IsNoPair (term.Pair head tail) = ⊥
IsNoPair other = Unit {0}

-- How many arguments a query or a change has at most, and how many terms a head.
abbrev pub most_args : ℕ
most_args = 12

-- The arguments of a query or a change, or a head.
abbrev pub AreArguments : List Term → Type 0
AreArguments terms = length terms ≤ most_args

-- The blocks of a select's branches, which are numbered by 16 bits.
abbrev pub AreBranches : List ℕ → Type 0
AreBranches blocks = length blocks ≤ 65535

-- What is done at once.
abbrev pub ActionBuilt : Action → Type 0
ActionBuilt (action.Text name) = Unit {0}
ActionBuilt (action.Gap kind) = Unit {0}
ActionBuilt (action.GapN a) = Unit {0}
ActionBuilt (action.Print a) = Unit {0}
ActionBuilt (action.Equal a b) = Unit {0}
ActionBuilt (action.Test kind a) = Unit {0}
ActionBuilt (action.Arith f a b c) = Unit {0}
ActionBuilt (action.Compare f a b) = Unit {0}
ActionBuilt (action.Random a b c) = Unit {0}
ActionBuilt (action.Now place terms sets) = AreArguments terms
ActionBuilt (action.Input a) = Unit {0}
ActionBuilt (action.SplitWord a b) = Unit {0}
ActionBuilt (action.JoinWords a b) = Unit {0}
ActionBuilt action.Just = Unit {0}
ActionBuilt action.Fail = Unit {0}
ActionBuilt action.Quit = Unit {0}
ActionBuilt action.Stop = Unit {0}

-- An instruction.
abbrev pub OpBuilt : Op → Type 0
OpBuilt (op.Do a) = ActionBuilt a
OpBuilt (op.Ask pred terms many next) = AreArguments terms
OpBuilt (op.LastAsk pred terms many) = AreArguments terms
OpBuilt (op.Query a b many next) = Unit {0}
OpBuilt (op.LastQuery a b many) = Unit {0}
OpBuilt (op.Find place terms many next) = AreArguments terms
OpBuilt op.Take = Unit {0}
OpBuilt (op.Branch alt) = Unit {0}
OpBuilt (op.Select site mode blocks behind) = AreBranches blocks
OpBuilt op.Once = Unit {0}
OpBuilt (op.Try alt) = Unit {0}
OpBuilt (op.Collect term into alt) = Unit {0}
OpBuilt (op.Keep term) = Unit {0}
OpBuilt (op.Shield alt) = Unit {0}
OpBuilt (op.Retry alt) = Unit {0}
OpBuilt op.Commit = Unit {0}
OpBuilt (op.TakeOut whole into) = Unit {0}
OpBuilt op.Refuse = Unit {0}
OpBuilt op.Leave = Unit {0}
OpBuilt op.Back = Unit {0}
OpBuilt op.Return = Unit {0}
OpBuilt (op.Goto b) = Unit {0}
OpBuilt (op.Enter vars head) = AreArguments head
OpBuilt op.Done = Unit {0}

-- Each of some instructions.
abbrev pub OpsBuilt : List Op → Type 0
OpsBuilt [] = Unit {0}
OpsBuilt (x ∷ ops) = OpBuilt x × OpsBuilt ops

-- Code has no other instructions, and queries of objects in it go on so.
pub record IsBuilt (code : Code) : Type 0 where
  pub blocks : (b : ℕ) → OpsBuilt (block_at code b)
  pub leave : (b : ℕ) → OpsLeave code (block_at code b)

-- An action prints nothing, reads nothing, leaves what lasts, and stops no part.
abbrev pub IsQuiet : Action → Type 0
IsQuiet (action.Text name) = ⊥
IsQuiet (action.Gap kind) = ⊥
IsQuiet (action.GapN a) = ⊥
IsQuiet (action.Print a) = ⊥
IsQuiet (action.Random a b c) = ⊥
IsQuiet (action.Now place terms sets) = ⊥
IsQuiet (action.Input a) = ⊥
IsQuiet action.Stop = ⊥
IsQuiet a = Unit {0}

-- So does an instruction, and it reads nothing of that.
abbrev pub IsQuietOp : Op → Type 0
IsQuietOp (op.Do a) = IsQuiet a
IsQuietOp (op.Select site mode blocks behind) = ⊥
IsQuietOp (op.Collect term into alt) = ⊥
IsQuietOp (op.Keep term) = ⊥
IsQuietOp (op.Find place terms many next) = ⊥
IsQuietOp x = Unit {0}

-- So does the first of some instructions.
abbrev pub BeginsQuietly : List Op → Type 0
BeginsQuietly [] = ⊥
BeginsQuietly (x ∷ ops) = IsQuietOp x
