use Rattle.dg_turn.proofs.FindTurn as turn
use Rattle.dg_turn.proofs.laws.find_turns.Goals as goal

pub returns : goal.returns
returns c = turn.find_turns
