use Rattle.dg_access.proofs.CarryLemmas.{mentions_put}
use Rattle.dg_access.proofs.laws.mentions_are_put.Goals as goal

pub returns : goal.returns
returns c = mentions_put
