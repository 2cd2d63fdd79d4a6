use Rattle.dg_turn.proofs.InputTurn as turn
use Rattle.dg_turn.proofs.laws.input_turns.Goals as goal

pub returns : goal.returns
returns c = turn.input_turns
