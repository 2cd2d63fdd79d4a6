use Rattle.dg_mid.proofs.Opening.{closes_list}
use Rattle.dg_mid.proofs.writing.Writer.next_list.Goals as goal

pub returns : goal.returns
returns c none =
    closes_list c.args.self.now.blocks c.list_block.new.self.blocks c.args.work c.in_ok-at_next.field-0 c.in_ok-ops.ops.items c.args.left c.pop.new.self c.in-Some.list c.args.alt c.args.tail c.args.others c.in_ok-b.b none c.in-Some.ensures
    c.in_ok-b.ensures.blocks c.in_ok-b.ensures.lands c.in_ok-ops.ensures c.in_ok-at_next.ensures.ops c.in_ok-at_next.ensures.goals c.in_ok-at_next.ensures.levels
