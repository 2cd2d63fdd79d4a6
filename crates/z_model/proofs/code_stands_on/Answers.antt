use Rattle.z_model.proofs.Standing.{stands_on}
use Rattle.z_model.proofs.code_stands_on.Goals as goal

pub returns : goal.returns
returns c = λ layout old new kept. stands_on layout old new kept
