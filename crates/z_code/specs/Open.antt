-- Instructions whose targets are still open: what they have to be, so that every way to fill them in gives instructions of the table.
use Rattle.std.specs.Prelude.{◌≡◌, ℕ, ◌<◌, ◌⊎◌, List, [], ◌∷◌, Option, Some, None, false}
use Rattle.z_model.specs.declared.op.Operand.{Operand}
use Rattle.z_model.specs.declared.op.Operand.TheVariants as operands
use Rattle.z_model.specs.declared.op.Branch.{Branch}
use Rattle.z_model.specs.declared.op.Op.{Op}
use Rattle.z_model.specs.Table.{player_rows}
use Rattle.z_model.specs.Spelling.{IsOfTable}
use Rattle.z_code.specs.declared.target.LOp.{LOp}
use Rattle.z_code.specs.declared.target.LOp.TheVariants as lops
use Rattle.z_code.specs.declared.target.Target.{Target}
use Rattle.z_code.specs.declared.target.Target.TheVariants as targets
use Rattle.z_code.specs.Targets.{nth}

-- How many routines, tables and texts there are to name.
pub record Counts : Type 0 where
  pub routines : ℕ
  pub tables : ℕ
  pub texts : ℕ

-- a label stands in instructions
abbrev pub HasLabel : ℕ → List LOp → Type 0
HasLabel l [] = ⊥
HasLabel l (lops.Label k ∷ ops) = (k ≡ l) ⊎ HasLabel l ops
HasLabel l (lops.Do op ts branch ∷ ops) = HasLabel l ops

-- a target is there
abbrev pub IsTarget : Counts → List LOp → Target → Type 0
IsTarget counts all (targets.Label l) = HasLabel l all
IsTarget counts all (targets.Routine r) = r < counts.routines
IsTarget counts all (targets.Table t) = t < counts.tables
IsTarget counts all (targets.Text t) = t < counts.texts

-- an operand that is filled in is given as a large 0, and its target is there
abbrev pub OpenIf : Counts → List LOp → Option Target → Operand → Type 0
OpenIf counts all None x = Unit {0}
OpenIf counts all (Some t) x = (x ≡ operands.Large 0) × IsTarget counts all t

-- a branch that is filled in is a long one, and its label is there
abbrev pub OpenBranch : List LOp → Option ℕ → Option Branch → Type 0
OpenBranch all None b = Unit {0}
OpenBranch all (Some l) None = ⊥
OpenBranch all (Some l) (Some b) = (b.short ≡ false) × HasLabel l all

-- An op of the table without literal text, whose operands with targets and whose branch are open.
pub record IsOpen (counts : Counts) (all : List LOp) (op : Op) (ts : List (Option Target)) (branch : Option ℕ) : Type 0 where
  pub table : IsOfTable player_rows op
  pub text : op.text ≡ 0
  pub first : OpenIf counts all (nth ts 0) op.operands.first
  pub second : OpenIf counts all (nth ts 1) op.operands.second
  pub third : OpenIf counts all (nth ts 2) op.operands.third
  pub fourth : OpenIf counts all (nth ts 3) op.operands.fourth
  pub branch_open : OpenBranch all branch op.branch

-- All instructions are open, and no label stands twice.
abbrev pub AreOpen : Counts → List LOp → List LOp → Type 0
AreOpen counts all [] = Unit {0}
AreOpen counts all (lops.Label l ∷ ops) = (HasLabel l ops → ⊥) × AreOpen counts all ops
AreOpen counts all (lops.Do op ts branch ∷ ops) = IsOpen counts all op ts branch × AreOpen counts all ops
