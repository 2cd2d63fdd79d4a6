use Rattle.z_lang.proofs.Turns.{numbered}
use Rattle.z_lang.proofs.whole_runs.Goals as goal

pub returns : goal.returns
returns c = λ w t at turns. numbered w t at turns
