use Rattle.dg_rt.proofs.Cutting as cutting
use Rattle.dg_rt.proofs.laws.commit_works.Goals as goal

pub returns : goal.returns
returns c = cutting.commit_works
