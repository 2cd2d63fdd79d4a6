use Rattle.dg_rt.proofs.Deciding as deciding
use Rattle.dg_rt.proofs.laws.tests_work.Goals as goal

pub returns : goal.returns
returns c = deciding.tests_work
