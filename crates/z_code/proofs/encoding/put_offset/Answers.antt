use Rattle.std.proofs.Common.{rules}
use Rattle.z_code.proofs.encoding.put_offset.Goals as goal

pub returns-then-short : goal.returns-then-short
returns-then-short c = search rules
