use Rattle.dg_turn.proofs.FailTurn as turn
use Rattle.dg_turn.proofs.laws.back_turns.Goals as goal

pub returns : goal.returns
returns c = turn.back_turns
