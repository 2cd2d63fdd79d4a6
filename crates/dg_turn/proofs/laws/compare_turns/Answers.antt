use Rattle.dg_turn.proofs.DecidingTurn as turn
use Rattle.dg_turn.proofs.laws.compare_turns.Goals as goal

pub returns : goal.returns
returns c = turn.compare_turns
