-- What decode_op answers of what stands at a place; how it is read is z_model's.
use Rattle.std.specs.Prelude.{ℕ, Result, Ok, Err}
use Rattle.z_model.specs.declared.fault.ZFault.{ZFault}
use Rattle.z_model.specs.declared.op.Op.{Op}
use Rattle.z_model.specs.declared.op.Found.{Found}

-- the op and the place behind it, or the fault
abbrev pub op_and_end : Result Found ZFault → Result (Op × ℕ) ZFault
op_and_end (Ok found) = Ok (found.op, found.end)
op_and_end (Err fault) = Err fault
