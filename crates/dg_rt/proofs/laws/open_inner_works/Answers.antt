use Rattle.dg_rt.proofs.InnerOpening as opening
use Rattle.dg_rt.proofs.laws.open_inner_works.Goals as goal

pub returns : goal.returns
returns c = opening.open_inner_works
