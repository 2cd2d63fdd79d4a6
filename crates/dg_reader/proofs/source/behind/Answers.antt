use Rattle.std.proofs.Common.{◌<◌, length, arith}
use Rattle.dg_reader.proofs.ItemLemmas.{all_behind_more}
use Rattle.dg_reader.proofs.source.behind.Goals as goal

pub loop-token-preserved : goal.loop-token-preserved
loop-token-preserved c =
    let lt : c.loop-token.token-index < length c.args.tokens.now = omega arith in
    (omega arith, all_behind_more c.args.tokens.now c.loop-token.token-index _ lt c.loop-token.invariant.1 c.if-token.false)
