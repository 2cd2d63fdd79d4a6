use Rattle.dg_rt.proofs.Leaving as leaving
use Rattle.dg_rt.proofs.laws.leave_works.Goals as goal

pub returns : goal.returns
returns c = leaving.leave_works
