use Rattle.std.proofs.Common.{arith}
use Rattle.std.proofs.lemmas.Grind.{common_steps}
use Rattle.dg_quiet.proofs.AsksLemmas.{left_append, weight_append, and_assoc, and_true, and_turned}
use Rattle.dg_quiet.proofs.asks.asks_of.Goals as goal

pub returns-then-not-branch : goal.returns-then-not-branch
returns-then-not-branch c = λ set. grind (arith, common_steps, left_append, and_assoc, and_true, and_turned)

pub loop-goals-smaller : goal.loop-goals-smaller
loop-goals-smaller c = grind (arith, common_steps, weight_append)

pub loop-goals-preserved : goal.loop-goals-preserved
loop-goals-preserved c = λ set. grind (arith, common_steps, left_append, and_assoc, and_true, and_turned)
