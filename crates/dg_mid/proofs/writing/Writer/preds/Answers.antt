use Rattle.dg_mid.proofs.Rules.{preds_more}
use Rattle.dg_mid.proofs.writing.Writer.preds.Goals as goal

pub loop-turn-preserved : goal.loop-turn-preserved
loop-turn-preserved c =
    preds_more c.args.self.now.blocks c.loop-turn.self.blocks c.rules.new.self.blocks c.args.preds c.loop-turn.preds c.pop.new.self c.in-Some.pred c.loop-turn.codes.items c.push.new.self.items c.in_ok-rules.field-0 c.loop-turn.invariant c.in-Some.ensures c.in_ok-rules.ensures.blocks
    c.in_ok-rules.ensures.neat c.in_ok-rules.ensures.light c.in_ok-rules.ensures.stand c.in_ok-push.ensures.items
