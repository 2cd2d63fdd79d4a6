use Rattle.std.proofs.Common.{◌+◌, drop, arith}
use Rattle.std.proofs.lemmas.List.{at_drop_more, at_drop_all}
use Rattle.dg_interp.proofs.Runs.{calls_begin, calls_more, calls_end, calls_break}
use Rattle.dg_interp.proofs.output.show_calls.Goals as goal

pub loop-call-init : goal.loop-call-init
loop-call-init g c = calls_begin g.A.Showing.watching c.args.calls.now (c.args.showing.now, c.args.sink.now)

pub loop-call-preserved : goal.loop-call-preserved
loop-call-preserved g c = calls_more g.A.Showing.watching c.args.calls.now _ _ _ (drop c.loop-call.call-index c.args.calls.now) _ (drop (c.loop-call.call-index + 1) c.args.calls.now) c.loop-call.invariant (at_drop_more (λ l. l) c.args.calls.now c.loop-call.call-index _ c.loop-call-test.true) c.in-Ok.ensures.ok

pub returns-in-Err-clause-err : goal.returns-in-Err-clause-err
returns-in-Err-clause-err g c = calls_break g.A.Showing.watching c.args.calls.now _ _ _ (drop c.loop-call.call-index c.args.calls.now) _ (drop (c.loop-call.call-index + 1) c.args.calls.now) c.loop-call.invariant (at_drop_more (λ l. l) c.args.calls.now c.loop-call.call-index _ c.loop-call-test.true) c.in-Err.ensures.err

pub returns-clause-ok : goal.returns-clause-ok
returns-clause-ok g c = calls_end g.A.Showing.watching c.args.calls.now (c.args.showing.now, c.args.sink.now) (c.loop-call.showing, c.loop-call.sink) (c.loop-call.showing, c.loop-call.sink) (drop c.loop-call.call-index c.args.calls.now) c.loop-call.invariant (at_drop_all (λ l. l) c.args.calls.now c.loop-call.call-index (omega (arith, c.loop-call-test.false)))
