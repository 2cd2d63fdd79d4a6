use Rattle.std.proofs.Common.{rules}
use Rattle.z_code.proofs.decoding.kind_of.Goals as goal

pub returns-in-Omitted : goal.returns-in-Omitted
returns-in-Omitted c = search rules
