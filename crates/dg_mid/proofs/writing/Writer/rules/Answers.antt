use Rattle.dg_mid.proofs.Rules.{rules_more}
use Rattle.dg_mid.proofs.writing.Writer.rules.Goals as goal

pub loop-turn-preserved : goal.loop-turn-preserved
loop-turn-preserved c =
    rules_more c.args.self.now.blocks c.loop-turn.self.blocks c.rule.new.self.blocks c.args.rules c.loop-turn.rules c.pop.new.self c.in-Some.rule c.loop-turn.codes.items c.push.new.self.items c.in_ok-rule.field-0 c.loop-turn.invariant c.in-Some.ensures c.in_ok-rule.ensures.blocks
    c.in_ok-rule.ensures.neat c.in_ok-rule.ensures.light c.in_ok-rule.ensures.stands c.in_ok-push.ensures.items
