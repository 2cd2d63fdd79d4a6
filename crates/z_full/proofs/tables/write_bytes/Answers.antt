use Rattle.std.proofs.Common.{◌∙◌, arith}
use Rattle.z_full.proofs.Steps.{rights_then, byte_refused, byte_written, bytes_written}
use Rattle.z_full.proofs.tables.write_bytes.Goals as goal

pub returns-in-Err-clause-set : goal.returns-in-Err-clause-set
returns-in-Err-clause-set g c = c.loop-byte.invariant.goes ∙ byte_refused (g.B.Bytes.memory c.loop-byte.mem) c.loop-byte.at c.args.bytes.now c.loop-byte.byte-index c.in-Err.fault c.loop-byte-test.true c.in-Err.ensures.set.0

pub loop-byte-preserved : goal.loop-byte-preserved
loop-byte-preserved g c = record {
  goes = c.loop-byte.invariant.goes ∙ byte_written (g.B.Bytes.memory c.loop-byte.mem) (g.B.Bytes.memory c.write.new.self) c.loop-byte.at c.args.bytes.now c.loop-byte.byte-index c.loop-byte-test.true c.in-Ok.ensures.set;
  rights = rights_then (g.B.Bytes.memory c.args.mem.now) (g.B.Bytes.memory c.loop-byte.mem) (g.B.Bytes.memory c.write.new.self) c.loop-byte.invariant.rights c.in-Ok.ensures.rights;
}

pub returns-clause-set : goal.returns-clause-set
returns-clause-set g c = c.loop-byte.invariant.goes ∙ bytes_written (g.B.Bytes.memory c.loop-byte.mem) c.loop-byte.at c.args.bytes.now c.loop-byte.byte-index (omega arith)
