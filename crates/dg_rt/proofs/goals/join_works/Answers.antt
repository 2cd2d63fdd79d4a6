use Rattle.dg_rt.proofs.Joined as joined
use Rattle.dg_rt.proofs.goals.join_works.Goals as goal

pub returns : goal.returns
returns c = joined.join_works
