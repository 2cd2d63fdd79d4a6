use Rattle.dg_rt.proofs.FullBound as bound
use Rattle.dg_rt.proofs.laws.full_works.Goals as goal

pub returns : goal.returns
returns c = bound.full_works
