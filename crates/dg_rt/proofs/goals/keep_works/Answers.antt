use Rattle.dg_rt.proofs.ValueGathered as proof
use Rattle.dg_rt.proofs.goals.keep_works.Goals as goal

pub returns : goal.returns
returns c = proof.keep_works
