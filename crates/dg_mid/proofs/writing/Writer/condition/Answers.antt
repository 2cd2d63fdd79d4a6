use Rattle.dg_mid.proofs.Opening.{opens_if}
use Rattle.dg_mid.proofs.writing.Writer.condition.Goals as goal

pub returns : goal.returns
returns c =
    opens_if c.args.self.now.blocks _ c.args.work c.in_ok-at_other.field-0 c.in_ok-ops.ops.items c.args.test c.args.first c.args.other c.in_ok-tail.tail c.in_ok-tail.ensures.blocks c.in_ok-tail.ensures.shares c.in_ok-ops.ensures
    c.in_ok-at_other.ensures.ops c.in_ok-at_other.ensures.goals c.in_ok-at_other.ensures.levels
