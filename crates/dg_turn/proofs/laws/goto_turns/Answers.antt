use Rattle.dg_turn.proofs.OnceTurn as turn
use Rattle.dg_turn.proofs.laws.goto_turns.Goals as goal

pub returns : goal.returns
returns c = λ t plays out x next m z there r. turn.goto_turns t plays out x next m z there r
