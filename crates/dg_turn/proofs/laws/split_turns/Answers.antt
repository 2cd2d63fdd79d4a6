use Rattle.dg_turn.proofs.WordTurns as turn
use Rattle.dg_turn.proofs.laws.split_turns.Goals as goal

pub returns : goal.returns
returns c = turn.split_turns
