use Rattle.std.proofs.Common.{arith}
use Rattle.std.proofs.lemmas.Grind.{common_steps}
use Rattle.dg_quiet.proofs.AsksLemmas.{and_assoc}
use Rattle.dg_quiet.proofs.asks.add_three.Goals as goal

pub returns-clause-quiet : goal.returns-clause-quiet
returns-clause-quiet c = λ set. grind (arith, common_steps, and_assoc)

pub returns-clause-weight : goal.returns-clause-weight
returns-clause-weight c = grind (arith, common_steps)
