use Rattle.dg_turn.proofs.ReturnTurn as turn
use Rattle.dg_turn.proofs.laws.just_turns.Goals as goal

pub returns : goal.returns
returns c = λ t plays out x behind m f fs z there e is_named r. turn.just_turns t plays out x behind m f fs z there e is_named r
