use Rattle.std.proofs.Common.{arith}
use Rattle.std.proofs.lemmas.Grind.{common_steps}
use Rattle.dg_quiet.proofs.AsksLemmas.{left_append, weight_append, and_assoc, and_true}
use Rattle.dg_quiet.proofs.asks.add_lists.Goals as goal

pub loop-goals-preserved : goal.loop-goals-preserved
loop-goals-preserved c = record { quiet = λ set. grind (arith, common_steps, left_append, and_assoc, and_true); weight = grind (arith, common_steps, weight_append) }
