use Rattle.dg_rt.proofs.Separating as separating
use Rattle.dg_rt.proofs.laws.separate_works.Goals as goal

pub returns : goal.returns
returns c = separating.separate_works
