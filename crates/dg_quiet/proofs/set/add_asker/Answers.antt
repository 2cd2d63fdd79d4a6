use Rattle.std.proofs.Common.{◌<◌, ◌≤◌, length, rules}
use Rattle.dg_quiet.specs.inside.Spread.{rows_of}
use Rattle.dg_quiet.proofs.SpreadLemmas.{added_next, added_stop}
use Rattle.dg_quiet.proofs.set.add_asker.Goals as goal

pub returns-then-at-len : goal.returns-then-at-len
returns-then-at-len c =
    let past : length c.loop-asked.askers.items ≤ c.from-at.result = search rules in
    added_stop (rows_of c.args.askers.now.items) c.args.pred c.args.asks.now c.loop-asked.asked-index c.loop-asked.askers.items c.from-at.result c.loop-asked.invariant c.loop-asked-test.true c.from-at.ensures past

pub loop-asked-preserved : goal.loop-asked-preserved
loop-asked-preserved c =
    let within : c.from-at.result < length c.loop-asked.askers.items = search rules in
    added_next (rows_of c.args.askers.now.items) c.args.pred c.args.asks.now c.loop-asked.asked-index c.loop-asked.askers.items c.from-at.result c.index_mut.result.now c.push.new.self
    c.loop-asked.invariant c.loop-asked-test.true c.from-at.ensures within c.index_mut.ensures.value c.in_ok-push.ensures.items
