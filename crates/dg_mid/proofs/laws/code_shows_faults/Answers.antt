use Rattle.dg_mid.proofs.Shown.{shows_faults}
use Rattle.dg_mid.proofs.laws.code_shows_faults.Goals as goal

pub returns : goal.returns
returns c g code limits codes typed = shows_faults g code limits codes typed
