use Rattle.std.proofs.Common.{rules}
use Rattle.z_text.proofs.walker.in_alphabet.Goals as goal

pub returns-in-1-to-3 : goal.returns-in-1-to-3
returns-in-1-to-3 c = search rules
