use Rattle.std.proofs.Common.{arith}
use Rattle.dg_base.proofs.Views.{tailed_list_seen}
use Rattle.dg_plain.proofs.built.tailed.Goals as goal

pub returns : goal.returns
returns c = grind (arith, tailed_list_seen)
