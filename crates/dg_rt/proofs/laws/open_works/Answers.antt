use Rattle.dg_rt.proofs.Opening as opening
use Rattle.dg_rt.proofs.laws.open_works.Goals as goal

pub returns : goal.returns
returns c = opening.open_works
