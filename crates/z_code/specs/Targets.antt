-- Instructions whose targets are filled in, and what it is that they stand in a story.
use Rattle.std.specs.Prelude.{◌≡◌, ℕ, ◌+◌, ◌≤◌, ◌<◌, ◌⊎◌, List, [], ◌∷◌, ◌++◌, length, Option, Some, None, ◌==◌, if◌then◌else◌, pos, slice_index_or}
use lib.IntN.{ℤ, ◌+ℤ◌, ◌-ℤ◌}
use Rattle.z_model.specs.declared.op.Operand.{Operand}
use Rattle.z_model.specs.declared.op.Operand.TheVariants as operands
use Rattle.z_model.specs.declared.op.Branch.{Branch}
use Rattle.z_model.specs.declared.op.Op.{Op}
use Rattle.z_model.specs.Table.{player_rows}
use Rattle.z_model.specs.Numbers.{wrapped_word}
use Rattle.z_model.specs.Spelling.{spelling, IsInstruction}
use Rattle.z_code.specs.declared.target.LOp.{LOp}
use Rattle.z_code.specs.declared.target.LOp.TheVariants as lops
use Rattle.z_code.specs.declared.target.Spot.{Spot}
use Rattle.z_code.specs.declared.target.Target.{Target}
use Rattle.z_code.specs.declared.target.Target.TheVariants as targets

-- Where the story has its routines and texts (packed), and its tables.
pub record Names : Type 0 where
  pub routine : ℕ → ℕ
  pub table : ℕ → ℕ
  pub text : ℕ → ℕ

-- ---- sizes

abbrev pub op_size : LOp → ℕ
op_size (lops.Label l) = 0
op_size (lops.Do op ts branch) = length (spelling op)

abbrev pub ops_size : List LOp → ℕ
ops_size [] = 0
ops_size (op ∷ ops) = op_size op + ops_size ops

-- ---- labels

-- where the labels of instructions stand that begin at a place
abbrev pub spots_from : ℕ → List LOp → List Spot
spots_from at [] = []
spots_from at (lops.Label l ∷ ops) = record { label = l; at = at } ∷ spots_from at ops
spots_from at (lops.Do op ts branch ∷ ops) = spots_from (at + length (spelling op)) ops

-- the place of a label, and 0 where it isn't among them
abbrev pub spot_of : List Spot → ℕ → ℕ
spot_of [] l = 0
spot_of (spot ∷ spots) l = if spot.label == l then spot.at else spot_of spots l

abbrev pub label_from : ℕ → List LOp → ℕ → ℕ
label_from at ops = spot_of (spots_from at ops)

-- ---- names filled in

-- the offset by which an instruction that ends there leads to an address
abbrev pub offset_to : ℕ → ℕ → ℤ
offset_to end to = pos to +ℤ pos 2 -ℤ pos end

-- what a target stands for, in an instruction that ends there
abbrev pub target_address : Names → (ℕ → ℕ) → ℕ → Target → ℕ
target_address names labels end (targets.Label l) = wrapped_word (offset_to end (labels l))
target_address names labels end (targets.Routine r) = names.routine r
target_address names labels end (targets.Table t) = names.table t
target_address names labels end (targets.Text t) = names.text t

abbrev pub fill : Names → (ℕ → ℕ) → ℕ → Option Target → Operand → Operand
fill names labels end None x = x
fill names labels end (Some t) x = operands.Large (target_address names labels end t)

abbrev pub nth : List (Option Target) → ℕ → Option Target
nth ts i = slice_index_or ts i None

abbrev pub fill_branch : (ℕ → ℕ) → ℕ → Option ℕ → Option Branch → Option Branch
fill_branch labels end (Some l) (Some b) = Some (record b { offset = offset_to end (labels l) })
fill_branch labels end None b = b
fill_branch labels end (Some l) None = None

abbrev pub filled : Names → (ℕ → ℕ) → ℕ → Op → List (Option Target) → Option ℕ → Op
filled names labels end op ts branch = record {
  form = op.form;
  number = op.number;
  operands = record {
    count = op.operands.count;
    first = fill names labels end (nth ts 0) op.operands.first;
    second = fill names labels end (nth ts 1) op.operands.second;
    third = fill names labels end (nth ts 2) op.operands.third;
    fourth = fill names labels end (nth ts 3) op.operands.fourth;
  };
  store = op.store;
  branch = fill_branch labels end branch op.branch;
  text = op.text;
}

-- ---- instructions that stand in a story

-- A jump or a branch can lead there: behind the instruction or well before its end, and not far away.
pub record IsNear (end to : ℕ) : Type 0 where
  pub apart : (to + 3 ≤ end) ⊎ (end ≤ to)
  pub back : end < to + 8192
  pub ahead : to < end + 8190

abbrev pub NearTarget : (ℕ → ℕ) → ℕ → Option Target → Type 0
NearTarget labels end None = Unit {0}
NearTarget labels end (Some (targets.Label l)) = IsNear end (labels l)
NearTarget labels end (Some (targets.Routine r)) = Unit {0}
NearTarget labels end (Some (targets.Table t)) = Unit {0}
NearTarget labels end (Some (targets.Text t)) = Unit {0}

abbrev pub NearLabel : (ℕ → ℕ) → ℕ → Option ℕ → Type 0
NearLabel labels end None = Unit {0}
NearLabel labels end (Some l) = IsNear end (labels l)

-- One instruction stands at a place, with its names filled in.
pub record OpAt (bytes : List ℕ) (names : Names) (labels : ℕ → ℕ) (at : ℕ) (op : Op) (ts : List (Option Target)) (branch : Option ℕ) : Type 0 where
  pub is : IsInstruction player_rows bytes at (filled names labels (at + length (spelling op)) op ts branch) (at + length (spelling op))
  pub target : NearTarget labels (at + length (spelling op)) (nth ts 0)
  pub label : NearLabel labels (at + length (spelling op)) branch

-- Instructions stand at a place, one behind another, and each label stands where it is said to.
abbrev pub OpsAt : List ℕ → Names → (ℕ → ℕ) → ℕ → List LOp → Type 0
OpsAt bytes names labels at [] = Unit {0}
OpsAt bytes names labels at (lops.Label l ∷ ops) = (labels l ≡ at) × OpsAt bytes names labels at ops
OpsAt bytes names labels at (lops.Do op ts branch ∷ ops) =
    OpAt bytes names labels at op ts branch × OpsAt bytes names labels (at + length (spelling op)) ops

-- ---- their bytes

-- the bytes of instructions that begin at a place, with their names filled in
abbrev pub ops_bytes : Names → (ℕ → ℕ) → ℕ → List LOp → List ℕ
ops_bytes names labels at [] = []
ops_bytes names labels at (lops.Label l ∷ ops) = ops_bytes names labels at ops
ops_bytes names labels at (lops.Do op ts branch ∷ ops) =
    let end = at + length (spelling op) in
    spelling (filled names labels end op ts branch) ++ ops_bytes names labels end ops
