use Rattle.std.proofs.Common.{rules}
use Rattle.z_model.proofs.fault.ZFault.number.Goals as goal

pub returns-in-OffEnd : goal.returns-in-OffEnd
returns-in-OffEnd c = search rules
