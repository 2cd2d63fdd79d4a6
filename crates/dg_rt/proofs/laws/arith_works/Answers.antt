use Rattle.dg_rt.proofs.Calculating as calculating
use Rattle.dg_rt.proofs.laws.arith_works.Goals as goal

pub returns : goal.returns
returns c = calculating.arith_works
