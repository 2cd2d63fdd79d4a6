use Rattle.dg_rt.proofs.Landing as landing
use Rattle.dg_rt.proofs.goals.tries_work.Goals as goal

pub returns : goal.returns
returns c = landing.tries_work
