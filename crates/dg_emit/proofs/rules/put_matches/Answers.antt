use Rattle.std.proofs.Common.{◌∙◌}
use Rattle.dg_emit.proofs.Matching.{matched_next}
use Rattle.dg_emit.proofs.rules.put_matches.Goals as goal

pub loop-index-preserved : goal.loop-index-preserved
loop-index-preserved c =
    matched_next c.loop-index.acts c.push.new.self c.args.arguments c.args.terms c.args.count c.loop-index.index c.loop-index-test.true c.in_ok-push.ensures.ok
    ∙ c.loop-index.invariant
