use Rattle.dg_turn.proofs.GapTurn as turn
use Rattle.dg_turn.proofs.laws.gap_turns.Goals as goal

pub returns : goal.returns
returns c = turn.gap_turns
