use Rattle.dg_rt.proofs.Calculating as calculating
use Rattle.dg_rt.proofs.laws.throw_works.Goals as goal

pub returns : goal.returns
returns c = calculating.throw_works
