use Rattle.dg_turn.proofs.MakingTurn as turn
use Rattle.dg_turn.proofs.laws.arith_turns.Goals as goal

pub returns : goal.returns
returns c = turn.arith_turns
