-- Where no instruction stands: the bytes end within one, or none begins there (Z-Machine Standard 1.1, sections 4.1 to 4.8).
use Rattle.std.specs.Prelude.{◌≡◌, ◌⊎◌, ◌↔◌, ◌<◌, ℕ, List, ◌++◌, length, Err}
use Rattle.z_model.specs.declared.fault.ZFault.{ZFault}
use Rattle.z_model.specs.declared.fault.ZFault.TheVariants.{BadOpcode, OffEnd}
use Rattle.z_model.specs.declared.op.Op.{Op}
use Rattle.z_model.specs.Table.{Rows}
use Rattle.z_model.specs.Decode.{op_at}
use Rattle.z_model.specs.Spelling.{IsInstruction, AreBytes}

-- An instruction of the table begins at a place and passes the end of the bytes: with these behind them it stands there.
pub record PassesEnd (rows : Rows) (bytes : List ℕ) (at : ℕ) : Type 0 where
  pub more : List ℕ
  pub are_bytes : AreBytes more
  pub op : Op
  pub end : ℕ
  pub there : IsInstruction rows (bytes ++ more) at op end
  pub passes : length bytes < end

-- No instruction of the table begins at a place, whatever bytes come behind these.
abbrev pub NoneBegins : Rows → List ℕ → ℕ → Type 0
NoneBegins rows bytes at = (more : List ℕ) → AreBytes more → (op : Op) (end : ℕ) → IsInstruction rows (bytes ++ more) at op end → ⊥

-- Decoding fails by the end exactly where an instruction passes it, and by a bad instruction exactly where none begins.
pub record Undecoded (rows : Rows) (bytes : List ℕ) (at : ℕ) : Type 0 where
  pub off_end : (op_at rows bytes at ≡ Err OffEnd) ↔ PassesEnd rows bytes at
  pub bad_opcode : (op_at rows bytes at ≡ Err BadOpcode) ↔ NoneBegins rows bytes at
  pub other : (fault : ZFault) → op_at rows bytes at ≡ Err fault → (fault ≡ OffEnd) ⊎ (fault ≡ BadOpcode)
