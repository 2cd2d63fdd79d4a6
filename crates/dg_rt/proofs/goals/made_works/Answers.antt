use Rattle.dg_rt.proofs.Made as made
use Rattle.dg_rt.proofs.goals.made_works.Goals as goal

pub returns : goal.returns
returns c = made.made_works
