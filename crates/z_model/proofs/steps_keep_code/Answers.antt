use Rattle.z_model.proofs.Kept.{code_stays}
use Rattle.z_model.proofs.steps_keep_code.Goals as goal

pub returns : goal.returns
returns c = λ w s laid. code_stays w laid s
