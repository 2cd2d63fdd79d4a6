use Rattle.std.proofs.Common.{rules}
use Rattle.z_code.proofs.encoding.put_head.Goals as goal

pub returns-in-Extended : goal.returns-in-Extended
returns-in-Extended c = search rules
