use Rattle.dg_names.proofs.FirstLemmas.{firsts_more}
use Rattle.dg_names.proofs.laws.firsts_go_on.Goals as goal

pub returns : goal.returns
returns c = firsts_more
