use Rattle.dg_rt.proofs.Charging as charging
use Rattle.dg_rt.proofs.laws.charge_works.Goals as goal

pub returns : goal.returns
returns c = charging.charge_works
