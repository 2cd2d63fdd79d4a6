use Rattle.dg_mid.proofs.Passing as passing
use Rattle.dg_mid.proofs.laws.code_passes_as_its_goals.Goals as goal

pub returns : goal.returns
returns c = passing.code_passes
