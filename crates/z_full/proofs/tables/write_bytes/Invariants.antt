use Rattle.std.proofs.Common.{drop}
use Rattle.z_model.specs.Memory.{with_bytes}
use Rattle.z_full.proofs.Steps.{GoesOn}
use Rattle.z_full.proofs.tables.write_bytes.Given as goal

abbrev pub invariant-loop-byte : goal.invariant-loop-byte
invariant-loop-byte g l = GoesOn (g.B.Bytes.memory l.initial.mem) (g.B.Bytes.memory l.mem) (with_bytes (g.B.Bytes.memory l.initial.mem) l.from l.bytes) (with_bytes (g.B.Bytes.memory l.mem) l.at (drop l.byte-index l.bytes))
