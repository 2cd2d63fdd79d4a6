use Rattle.z_model.proofs.NoInstruction.{undecoded_holds}
use Rattle.z_model.proofs.faults_are_exact.Goals as goal

pub returns : goal.returns
returns c = λ bytes at are. undecoded_holds bytes at are
