use Rattle.std.proofs.Common.{◌∙◌, arith}
use Rattle.z_full.proofs.Steps.{rights_then, clear_failed, clear_later, clear_over}
use Rattle.z_full.proofs.tables.clear.Goals as goal

pub returns-in-Err-clause-set : goal.returns-in-Err-clause-set
returns-in-Err-clause-set g c = c.loop-more.invariant.goes ∙ clear_failed (g.B.Bytes.memory c.loop-more.mem) c.loop-more.at c.loop-more.more c.in-Err.fault c.loop-more-test.true c.in-Err.ensures.set.0

pub loop-more-preserved : goal.loop-more-preserved
loop-more-preserved g c = record {
  goes = c.loop-more.invariant.goes ∙ clear_later (g.B.Bytes.memory c.loop-more.mem) (g.B.Bytes.memory c.write.new.self) c.loop-more.at c.loop-more.more c.loop-more-test.true c.in-Ok.ensures.set;
  rights = rights_then (g.B.Bytes.memory c.args.mem.now) (g.B.Bytes.memory c.loop-more.mem) (g.B.Bytes.memory c.write.new.self) c.loop-more.invariant.rights c.in-Ok.ensures.rights;
}

pub returns-clause-set : goal.returns-clause-set
returns-clause-set g c = c.loop-more.invariant.goes ∙ clear_over (g.B.Bytes.memory c.loop-more.mem) c.loop-more.at c.loop-more.more (omega (arith, c.loop-more-test.false))
