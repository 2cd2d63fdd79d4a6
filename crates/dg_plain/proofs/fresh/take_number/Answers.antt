use Rattle.std.proofs.Common.{arith}
use Rattle.dg_plain.proofs.fresh.take_number.Goals as goal

pub returns-in-Some-clause-at : goal.returns-in-Some-clause-at
returns-in-Some-clause-at c = grind arith
