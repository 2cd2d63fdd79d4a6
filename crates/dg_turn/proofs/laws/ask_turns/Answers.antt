use Rattle.dg_turn.proofs.AskTurn as turn
use Rattle.dg_turn.proofs.laws.ask_turns.Goals as goal

pub returns : goal.returns
returns c = turn.ask_turns
