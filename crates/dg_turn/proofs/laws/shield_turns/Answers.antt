use Rattle.dg_turn.proofs.ShieldTurn as turn
use Rattle.dg_turn.proofs.laws.shield_turns.Goals as goal

pub returns : goal.returns
returns c = turn.shield_turns
