-- Instructions that are ready to be written: with their names filled in they are of the table.
use Rattle.std.specs.Prelude.{◌≡◌, ℕ, ◌+◌, ◌<◌, List, [], ◌∷◌, length, Option}
use Rattle.z_model.specs.declared.op.Op.{Op}
use Rattle.z_model.specs.Table.{player_rows}
use Rattle.z_model.specs.Spelling.{spelling, IsOfTable}
use Rattle.z_code.specs.declared.target.LOp.{LOp}
use Rattle.z_code.specs.declared.target.LOp.TheVariants as lops
use Rattle.z_code.specs.declared.target.Target.{Target}
use Rattle.z_code.specs.Targets.{Names, nth, filled, label_from, NearTarget, NearLabel}
use Rattle.z_asm.specs.declared.image.Code.{Code}

-- What a routine names are words.
pub record AreWords (names : Names) : Type 0 where
  pub routine : (k : ℕ) → names.routine k < 65536
  pub table : (k : ℕ) → names.table k < 65536
  pub text : (k : ℕ) → names.text k < 65536

-- An instruction that is filled in is one of the table, as long as before, and leads near.
pub record FillsIn (names : Names) (labels : ℕ → ℕ) (at : ℕ) (op : Op) (ts : List (Option Target)) (branch : Option ℕ) : Type 0 where
  pub table : IsOfTable player_rows (filled names labels (at + length (spelling op)) op ts branch)
  pub text : op.text ≡ 0
  pub target : NearTarget labels (at + length (spelling op)) (nth ts 0)
  pub near : NearLabel labels (at + length (spelling op)) branch
  pub long : length (spelling (filled names labels (at + length (spelling op)) op ts branch)) ≡ length (spelling op)

-- All do, from a place on, and each label stands where it is said to.
abbrev pub AreFilled : Names → (ℕ → ℕ) → ℕ → List LOp → Type 0
AreFilled names labels at [] = Unit {0}
AreFilled names labels at (lops.Label l ∷ ops) = (labels l ≡ at) × AreFilled names labels at ops
AreFilled names labels at (lops.Do op ts branch ∷ ops) = FillsIn names labels at op ts branch × AreFilled names labels (at + length (spelling op)) ops

-- A routine can be written wherever it stands.
pub record IsWritable (names : Names) (code : Code) : Type 0 where
  pub filled : (at : ℕ) → AreFilled names (label_from at code.ops) at code.ops

abbrev pub AreWritable : Names → List Code → Type 0
AreWritable names [] = Unit {0}
AreWritable names (code ∷ codes) = IsWritable names code × AreWritable names codes
