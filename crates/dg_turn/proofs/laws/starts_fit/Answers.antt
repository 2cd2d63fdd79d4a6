use Rattle.dg_turn.proofs.Starting as starting
use Rattle.dg_turn.proofs.laws.starts_fit.Goals as goal

pub returns : goal.returns
returns c = starting.starts_fit
