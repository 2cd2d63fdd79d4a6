use Rattle.dg_rt.proofs.Entering as entering
use Rattle.dg_rt.proofs.laws.enter_works.Goals as goal

pub returns : goal.returns
returns c = entering.enter_works
