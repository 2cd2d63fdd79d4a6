use Rattle.std.proofs.Common.{arith}
use Rattle.std.proofs.lemmas.Grind.{common_steps}
use Rattle.dg_quiet.proofs.AsksLemmas.{left_append, and_assoc, and_true}
use Rattle.dg_quiet.proofs.asks.bodies_of.Goals as goal

pub loop-rule-preserved : goal.loop-rule-preserved
loop-rule-preserved c = λ set. grind (arith, common_steps, left_append, and_assoc, and_true)

pub returns : goal.returns
returns c = λ set. grind (arith, common_steps, and_true)
