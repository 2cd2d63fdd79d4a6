use Rattle.dg_rt.proofs.First as first
use Rattle.dg_rt.proofs.laws.first_works.Goals as goal

pub returns : goal.returns
returns c = first.first_works
