use Rattle.std.proofs.Common.{rules, ◌<◌, length}
use Rattle.dg_names.specs.State.{seen}
use Rattle.dg_core.proofs.RowLemmas.{more_numbered}
use Rattle.dg_core.proofs.rows.numbers_among.Goals as goal

pub loop-name-preserved : goal.loop-name-preserved
loop-name-preserved c =
    let more : c.loop-name.name-index < length c.args.names.now = search rules in
    more_numbered (seen c.args.variables.now) c.args.names.now c.loop-name.name-index _ _ c.loop-name.numbers _ _ more c.number_among.ensures c.in_ok-push.ensures.ok c.loop-name.invariant
