use Rattle.std.proofs.Common.{arith}
use Rattle.dg_reader.proofs.open.takes_choices.Goals as goal

pub returns-in-InHead : goal.returns-in-InHead
returns-in-InHead c = grind arith
