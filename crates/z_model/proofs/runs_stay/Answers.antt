use Rattle.z_model.proofs.Parts.{runs_stay}
use Rattle.z_model.proofs.runs_stay.Goals as goal

pub returns : goal.returns
returns c = λ w s. runs_stay w s
