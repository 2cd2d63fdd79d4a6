use Rattle.dg_turn.proofs.GlobalTurn as turn
use Rattle.dg_turn.proofs.laws.global_turns.Goals as goal

pub returns : goal.returns
returns c = turn.global_turns
