use Rattle.std.proofs.Common.{arith}
use Rattle.dg_base.proofs.WrittenLemmas.{wrote_nothing}
use Rattle.dg_spacing.proofs.GapLemmas.{one_more, one_broke}
use Rattle.dg_spacing.proofs.spacer.write_spaces.Goals as goal

pub loop-written-init : goal.loop-written-init
loop-written-init g c = record { within = omega arith; wrote = wrote_nothing (g.K.Sink.view c.args.sink.now) }

pub loop-written-preserved : goal.loop-written-preserved
loop-written-preserved g c = record { within = omega arith; wrote = one_more _ _ _ c.loop-written.written c.loop-written.invariant.wrote c.in-Ok.ensures.ok }

pub returns-in-Err-clause-err : goal.returns-in-Err-clause-err
returns-in-Err-clause-err g c = one_broke _ _ _ c.loop-written.written c.args.count c.loop-written-test.true c.loop-written.invariant.wrote c.in-Err.ensures.err
