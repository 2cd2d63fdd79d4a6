use Rattle.dg_turn.proofs.ReadingTurn as turn
use Rattle.dg_turn.proofs.laws.holds_turns.Goals as goal

pub returns : goal.returns
returns c = turn.holds_turns
