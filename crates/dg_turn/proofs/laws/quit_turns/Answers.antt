use Rattle.dg_turn.proofs.SpacesTurn as turn
use Rattle.dg_turn.proofs.laws.quit_turns.Goals as goal

pub returns : goal.returns
returns c = turn.quit_turns
