use Rattle.dg_turn.proofs.StopTurn as turn
use Rattle.dg_turn.proofs.laws.stop_turns.Goals as goal

pub returns : goal.returns
returns c = turn.stop_turns
