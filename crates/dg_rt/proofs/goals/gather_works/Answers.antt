use Rattle.dg_rt.proofs.GatheringOpened as proof
use Rattle.dg_rt.proofs.goals.gather_works.Goals as goal

pub returns : goal.returns
returns c = proof.gather_works
