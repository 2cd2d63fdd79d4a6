use Rattle.dg_turn.proofs.MakingTurn as turn
use Rattle.dg_turn.proofs.laws.random_turns.Goals as goal

pub returns : goal.returns
returns c = turn.random_turns
