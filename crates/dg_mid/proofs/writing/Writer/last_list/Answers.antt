use Rattle.dg_mid.proofs.Opening.{opens_lists}
use Rattle.dg_mid.proofs.writing.Writer.last_list.Goals as goal

pub returns : goal.returns
returns c =
    opens_lists c.args.self.now.blocks _ c.args.work c.in_ok-at_list.field-0 c.in_ok-ops.ops.items c.args.left c.args.last c.in_ok-tail.tail c.in_ok-tail.ensures.blocks c.in_ok-tail.ensures.shares c.in_ok-ops.ensures
    c.in_ok-at_list.ensures.ops c.in_ok-at_list.ensures.goals c.in_ok-at_list.ensures.levels
