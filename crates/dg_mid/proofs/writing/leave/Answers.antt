use Rattle.std.proofs.Common.{refl}
use Rattle.dg_mid.proofs.Opening.{closes}
use Rattle.dg_mid.proofs.writing.leave.Goals as goal

pub returns : goal.returns
returns c none blocks =
    closes blocks c.args.work (record { ops = c.in_ok-ops.ops; goals = c.args.others; levels = c.args.work.levels }) c.args.op c.args.others none c.in_ok-ops.ensures refl refl
