use Rattle.dg_rt.proofs.Failing as failing
use Rattle.dg_rt.proofs.laws.fail_works.Goals as goal

pub returns : goal.returns
returns c = failing.fail_works
