use Rattle.dg_turn.proofs.DecidingTurn as turn
use Rattle.dg_turn.proofs.laws.test_turns.Goals as goal

pub returns : goal.returns
returns c = turn.test_turns
