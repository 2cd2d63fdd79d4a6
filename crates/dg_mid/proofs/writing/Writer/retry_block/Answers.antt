use Rattle.dg_mid.proofs.Opening.{retry_lands}
use Rattle.dg_mid.proofs.writing.Writer.retry_block.Goals as goal

pub returns-clause-lands : goal.returns-clause-lands
returns-clause-lands c =
    retry_lands c.args.self.now.blocks c.block.new.self.blocks c.args.ops.items c.in_ok-ops.ops.items c.args.next c.in_ok-block.field-0 c.in_ok-ops.ensures c.in_ok-block.ensures.made c.in_ok-block.ensures.number
