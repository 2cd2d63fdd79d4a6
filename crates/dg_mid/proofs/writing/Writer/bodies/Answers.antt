use Rattle.dg_mid.proofs.Rules.{bodies_more}
use Rattle.dg_mid.proofs.writing.Writer.bodies.Goals as goal

pub loop-turn-preserved : goal.loop-turn-preserved
loop-turn-preserved c =
    bodies_more c.args.self.now.blocks c.loop-turn.self.blocks c.body.new.self.blocks c.args.closures c.loop-turn.closures c.pop.new.self c.in-Some.closure c.loop-turn.codes.items _ _ c.loop-turn.captured.items _ _ c.loop-turn.invariant c.in-Some.ensures c.in_ok-code.ensures.blocks
    c.in_ok-code.ensures.neat c.in_ok-code.ensures.light c.in_ok-code.ensures.stands c.in_ok-push.ensures.items c.in_ok-code.ensures.captured c.in_ok-push-2.ensures.items
