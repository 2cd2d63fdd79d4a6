use Rattle.dg_rt.proofs.AtTop as top
use Rattle.dg_rt.proofs.laws.operands_work.Goals as goal

pub returns : goal.returns
returns c = top.operands_work
