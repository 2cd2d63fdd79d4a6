use Rattle.dg_rt.proofs.Picking as picking
use Rattle.dg_rt.proofs.goals.picks_work.Goals as goal

pub returns : goal.returns
returns c = picking.picks_work
