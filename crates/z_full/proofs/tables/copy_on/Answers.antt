use Rattle.std.proofs.Common.{sym, ◌∙◌, arith}
use Rattle.z_full.proofs.Steps.{rights_then, read_failed, write_failed, copy_later, copy_over}
use Rattle.z_full.proofs.tables.copy_on.Goals as goal

pub returns-in-Err-clause-set : goal.returns-in-Err-clause-set
returns-in-Err-clause-set g c = c.loop-more.invariant.goes ∙ read_failed (g.B.Bytes.memory c.loop-more.mem) c.loop-more.a c.loop-more.b c.loop-more.more c.in-Err.fault c.loop-more-test.true (sym c.in-Err.ensures)

pub returns-in-Err-write-clause-set : goal.returns-in-Err-write-clause-set
returns-in-Err-write-clause-set g c = c.loop-more.invariant.goes ∙ write_failed (g.B.Bytes.memory c.loop-more.mem) c.loop-more.a c.loop-more.b c.loop-more.more c.in-Ok.byte c.in-Err-write.fault c.loop-more-test.true (sym c.in-Ok.ensures) c.in-Err-write.ensures.set.0

pub loop-more-preserved : goal.loop-more-preserved
loop-more-preserved g c = record {
  goes = c.loop-more.invariant.goes ∙ copy_later (g.B.Bytes.memory c.loop-more.mem) (g.B.Bytes.memory c.write.new.self) c.loop-more.a c.loop-more.b c.loop-more.more c.in-Ok.byte c.loop-more-test.true (sym c.in-Ok.ensures) c.in-Ok-write.ensures.set;
  rights = rights_then (g.B.Bytes.memory c.args.mem.now) (g.B.Bytes.memory c.loop-more.mem) (g.B.Bytes.memory c.write.new.self) c.loop-more.invariant.rights c.in-Ok-write.ensures.rights;
}

pub returns-clause-set : goal.returns-clause-set
returns-clause-set g c = c.loop-more.invariant.goes ∙ copy_over (g.B.Bytes.memory c.loop-more.mem) c.loop-more.a c.loop-more.b c.loop-more.more (omega (arith, c.loop-more-test.false))
