use Rattle.std.proofs.Common.{arith}
use Rattle.std.proofs.lemmas.Grind.{common_steps}
use Rattle.dg_single.proofs.PlainLemmas.{left_append, weight_append, and_assoc, and_true}
use Rattle.dg_single.proofs.plain.add_two.Goals as goal

pub returns-clause-plain : goal.returns-clause-plain
returns-clause-plain c = grind (arith, common_steps, left_append, and_assoc, and_true)

pub returns-clause-weight : goal.returns-clause-weight
returns-clause-weight c = grind (arith, common_steps, weight_append)
