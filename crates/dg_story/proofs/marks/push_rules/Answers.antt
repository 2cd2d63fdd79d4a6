use Rattle.dg_story.proofs.Marking.{rule_next}
use Rattle.dg_story.proofs.marks.push_rules.Goals as goal

pub loop-rule-preserved : goal.loop-rule-preserved
loop-rule-preserved c =
    rule_next c.loop-rule.rules.items c.push.new.self.items _ c.args.pred c.loop-rule.rule c.args.count c.loop-rule-test.true c.loop-rule.invariant c.in_ok-push.ensures.items
