use Rattle.z_lang.proofs.Constructs.{constructs}
use Rattle.z_lang.proofs.constructs_run.Goals as goal

pub returns : goal.returns
returns c = λ p f w body t l e first other more s s' n. constructs p f w body t l e first other more s s' n
