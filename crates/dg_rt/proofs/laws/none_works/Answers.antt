use Rattle.dg_rt.proofs.Matching as matching
use Rattle.dg_rt.proofs.laws.none_works.Goals as goal

pub returns : goal.returns
returns c = matching.none_works
