use Rattle.std.proofs.Common.{rules}
use Rattle.z_text.proofs.encoding.ascii_code.Goals as goal

pub returns-in-10-clause-code : goal.returns-in-10-clause-code
returns-in-10-clause-code c = search rules
