use Rattle.std.proofs.Common.{rules}
use Rattle.z_text.proofs.walker.letter.Goals as goal

pub returns-in-Low : goal.returns-in-Low
returns-in-Low c = search rules
