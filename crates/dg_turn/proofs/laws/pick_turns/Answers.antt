use Rattle.dg_turn.proofs.PickTurn as turn
use Rattle.dg_turn.proofs.laws.pick_turns.Goals as goal

pub returns : goal.returns
returns c = turn.pick_turns
