use Rattle.std.proofs.Common.{arith}
use Rattle.dg_base.proofs.WrittenLemmas.{rest_length, wrote_more, put_failed, falls}
use Rattle.dg_base.proofs.writing.write_all.Goals as goal

pub loop-at-preserved : goal.loop-at-preserved
loop-at-preserved g c =
    let inv = c.loop-at.invariant in
    let put = c.in-Ok.ensures in
    record {
      within = omega (arith, put.part.0, rest_length c.args.text.now c.loop-at.at, inv.within, c.loop-at-test.true);
      wrote =
          wrote_more (g.K.Sink.view c.args.sink.now) (g.K.Sink.view c.loop-at.sink)
          (g.K.Sink.view c.put.new.self) c.args.text.now c.loop-at.at c.in-Ok.count put.part.0 inv.wrote put.taken (falls _ (g.K.Sink.view c.loop-at.sink).room (g.K.Sink.view c.put.new.self).room c.in-Ok.count put.room) put.cause.steady;
    }

pub returns-in-Err-clause-err : goal.returns-in-Err-clause-err
returns-in-Err-clause-err g c =
    let inv = c.loop-at.invariant in
    let put = c.in-Err.ensures in
    put_failed (g.K.Sink.view c.args.sink.now) (g.K.Sink.view c.loop-at.sink)
    (g.K.Sink.view c.put.new.self) c.args.text.now c.loop-at.at _ inv.within inv.wrote put.taken put.fits put.cause.later put.cause.failed put.cause.once
