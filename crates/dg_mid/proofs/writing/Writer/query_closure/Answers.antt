use Rattle.std.proofs.Common.{refl}
use Rattle.dg_mid.proofs.Opening.{puts_moves}
use Rattle.dg_mid.proofs.writing.Writer.query_closure.Goals as goal

pub returns : goal.returns
returns c = puts_moves c.args.self.now.blocks _ c.args.work _ _ refl refl c.in_ok-ops.ensures.blocks c.in_ok-ops.ensures.first
