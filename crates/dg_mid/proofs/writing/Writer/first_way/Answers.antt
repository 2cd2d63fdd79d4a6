use Rattle.dg_mid.proofs.Opening.{closes_other}
use Rattle.dg_mid.proofs.writing.Writer.first_way.Goals as goal

pub returns : goal.returns
returns c none =
    closes_other c.args.self.now.blocks _ c.args.work c.in_ok-at_first.field-0 c.in_ok-ops.ops.items c.args.test c.args.first c.args.others c.args.tail c.in_ok-alt.alt none c.in_ok-alt.ensures.blocks c.in_ok-alt.ensures.lands c.in_ok-ops.ensures
    c.in_ok-at_first.ensures.ops c.in_ok-at_first.ensures.goals c.in_ok-at_first.ensures.levels
