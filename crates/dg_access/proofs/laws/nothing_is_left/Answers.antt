use Rattle.dg_access.proofs.LeftLemmas.{nothing_left}
use Rattle.dg_access.proofs.laws.nothing_is_left.Goals as goal

pub returns : goal.returns
returns c = nothing_left
