use Rattle.dg_rt.proofs.SumTaken as proof
use Rattle.dg_rt.proofs.goals.sum_works.Goals as goal

pub returns : goal.returns
returns c = proof.sum_works
