use Rattle.dg_rt.proofs.Takes as takes
use Rattle.dg_rt.proofs.laws.take_works.Goals as goal

pub returns : goal.returns
returns c = takes.take_works
