use Rattle.dg_rt.proofs.Closing as closing
use Rattle.dg_rt.proofs.laws.closings_work.Goals as goal

pub returns : goal.returns
returns c = closing.closings_work
