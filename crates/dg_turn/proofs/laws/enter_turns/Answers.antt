use Rattle.dg_turn.proofs.EnterTurn as turn
use Rattle.dg_turn.proofs.laws.enter_turns.Goals as goal

pub returns : goal.returns
returns c = turn.enter_turns
