use Rattle.std.proofs.Common.{arith}
use Rattle.std.proofs.lemmas.Grind.{common_steps}
use Rattle.dg_base.proofs.HeadLemmas.{behind_then}
use Rattle.dg_base.proofs.heads.behind_open.Goals as goal

pub returns-in_err-behind_part-in-len1-up : goal.returns-in_err-behind_part-in-len1-up
returns-in_err-behind_part-in-len1-up c = grind (arith, common_steps, behind_then)

pub returns-in_ok-behind_part-in-len1-up : goal.returns-in_ok-behind_part-in-len1-up
returns-in_ok-behind_part-in-len1-up c = grind (arith, common_steps, behind_then)
