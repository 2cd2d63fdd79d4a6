use Rattle.dg_machine.proofs.Lacking.{lack_shown, lack_lost}
use Rattle.dg_machine.proofs.machine.write_keep.Goals as goal

pub returns-in-Ok-clause-shows : goal.returns-in-Ok-clause-shows
returns-in-Ok-clause-shows g c = λ p dice l over i. lack_shown p dice l over i _ _ c.in-Ok.ensures.ok

pub returns-in-Err-clause-output : goal.returns-in-Err-clause-output
returns-in-Err-clause-output g c = λ is p dice l over i. lack_lost p dice l over i _ _ c.in-Err.ensures.err
