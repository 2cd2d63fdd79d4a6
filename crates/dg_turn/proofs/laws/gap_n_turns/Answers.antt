use Rattle.dg_turn.proofs.SpacesTurn as turn
use Rattle.dg_turn.proofs.laws.gap_n_turns.Goals as goal

pub returns : goal.returns
returns c = turn.gap_n_turns
