use Rattle.dg_rt.proofs.ListTaken as proof
use Rattle.dg_rt.proofs.goals.list_works.Goals as goal

pub returns : goal.returns
returns c = proof.list_works
