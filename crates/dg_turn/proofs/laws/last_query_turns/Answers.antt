use Rattle.dg_turn.proofs.LastQueryTurn as turn
use Rattle.dg_turn.proofs.laws.last_query_turns.Goals as goal

pub returns : goal.returns
returns c = turn.last_query_turns
