use Rattle.dg_turn.proofs.QueryTurn as turn
use Rattle.dg_turn.proofs.laws.query_turns.Goals as goal

pub returns : goal.returns
returns c = turn.query_turns
