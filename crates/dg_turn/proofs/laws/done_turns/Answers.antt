use Rattle.dg_turn.proofs.StopTurn as turn
use Rattle.dg_turn.proofs.laws.done_turns.Goals as goal

pub returns : goal.returns
returns c = λ t plays out x m z there r. turn.done_turns t plays out x m z there r
