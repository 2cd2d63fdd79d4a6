use Rattle.dg_turn.proofs.BodyTurn as turn
use Rattle.dg_turn.proofs.laws.body_turns.Goals as goal

pub returns : goal.returns
returns c = turn.body_turns
