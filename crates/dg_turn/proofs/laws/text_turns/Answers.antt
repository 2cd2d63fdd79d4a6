use Rattle.dg_turn.proofs.TextTurn as turn
use Rattle.dg_turn.proofs.laws.text_turns.Goals as goal

pub returns : goal.returns
returns c = turn.text_turns
