use Rattle.std.proofs.Common.{arith}
use Rattle.dg_base.proofs.WrittenLemmas.{rest_length}
use Rattle.dg_watch.proofs.Telling.{given_nothing, given_more, given_all, lost_rest}
use Rattle.dg_watch.proofs.handing.hand_over.Goals as goal

pub loop-at-init : goal.loop-at-init
loop-at-init g c = record { within = omega arith; given = given_nothing g.A.Showing.watching (c.args.showing.now, c.args.sink.now) }

pub loop-at-preserved : goal.loop-at-preserved
loop-at-preserved g c =
    let inv = c.loop-at.invariant in
    let put = c.in-Ok.ensures in
    record {
      within = omega (arith, put.part.0, rest_length c.args.bytes.now c.loop-at.at, inv.within, c.loop-at-test.true);
      given = given_more g.A.Showing.watching (c.args.showing.now, c.args.sink.now) (c.loop-at.showing, c.loop-at.sink) (c.put.new.self, c.put.new.sink) c.args.bytes.now c.loop-at.at c.in-Ok.count inv.given put.puts put.cause.steady;
    }

pub returns-in-Err-clause-err : goal.returns-in-Err-clause-err
returns-in-Err-clause-err g c =
    let inv = c.loop-at.invariant in
    let put = c.in-Err.ensures in
    lost_rest g.A.Showing.watching (c.args.showing.now, c.args.sink.now) (c.loop-at.showing, c.loop-at.sink) (c.put.new.self, c.put.new.sink) c.args.bytes.now c.loop-at.at inv.given put.puts put.cause.later put.cause.failed put.cause.once

pub returns-clause-ok : goal.returns-clause-ok
returns-clause-ok g c = given_all g.A.Showing.watching (c.args.showing.now, c.args.sink.now) (c.loop-at.showing, c.loop-at.sink) c.args.bytes.now c.loop-at.at (omega (arith, c.loop-at-test.false)) c.loop-at.invariant.given
