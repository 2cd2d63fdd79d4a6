use Rattle.z_model.proofs.Basic.{basic_runs_stay}
use Rattle.z_model.proofs.basic_runs_stay.Goals as goal

pub returns : goal.returns
returns c = λ w s. basic_runs_stay w s
