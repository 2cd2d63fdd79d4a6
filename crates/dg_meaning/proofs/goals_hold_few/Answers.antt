use Rattle.dg_meaning.proofs.HoldingFew as few
use Rattle.dg_meaning.proofs.goals_hold_few.Goals as goal

pub returns : goal.returns
returns c = few.goals_hold_few
