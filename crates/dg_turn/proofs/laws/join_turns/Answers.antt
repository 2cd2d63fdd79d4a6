use Rattle.dg_turn.proofs.WordTurns as turn
use Rattle.dg_turn.proofs.laws.join_turns.Goals as goal

pub returns : goal.returns
returns c = turn.join_turns
