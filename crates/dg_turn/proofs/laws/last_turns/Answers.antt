use Rattle.dg_turn.proofs.LastTurn as turn
use Rattle.dg_turn.proofs.laws.last_turns.Goals as goal

pub returns : goal.returns
returns c = turn.last_turns
