use Rattle.dg_rt.proofs.Matching as matching
use Rattle.dg_rt.proofs.laws.matched_works.Goals as goal

pub returns : goal.returns
returns c = matching.matched_works
