use Rattle.dg_turn.proofs.EqualTurn as turn
use Rattle.dg_turn.proofs.laws.equal_turns.Goals as goal

pub returns : goal.returns
returns c = turn.equal_turns
