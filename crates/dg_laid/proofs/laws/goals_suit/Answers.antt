use Rattle.dg_laid.proofs.Suiting as suiting
use Rattle.dg_laid.proofs.laws.goals_suit.Goals as goal

pub returns-clause-blocks : goal.returns-clause-blocks
returns-clause-blocks c = suiting.goals_suit

pub returns-clause-bodies : goal.returns-clause-bodies
returns-clause-bodies c = suiting.bodies_suit
