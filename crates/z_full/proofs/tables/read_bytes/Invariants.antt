use Rattle.std.proofs.Common.{◌≡◌, ◌-◌, length, take}
use Rattle.z_model.specs.Tables.{bytes_in}
use Rattle.z_full.proofs.Steps.{behind_front}
use Rattle.z_full.proofs.tables.read_bytes.Given as goal

abbrev pub invariant-loop-place : goal.invariant-loop-place
invariant-loop-place g l = bytes_in (g.B.Bytes.memory l.mem) l.from (length l.initial.into) ≡ behind_front (take l.place-index l.into) (bytes_in (g.B.Bytes.memory l.mem) l.at (length l.into - l.place-index))
