use Rattle.dg_turn.proofs.OnceTurn as turn
use Rattle.dg_turn.proofs.laws.once_turns.Goals as goal

pub returns : goal.returns
returns c = turn.once_turns
