use Rattle.dg_turn.proofs.ReturnTurn as turn
use Rattle.dg_turn.proofs.laws.return_turns.Goals as goal

pub returns : goal.returns
returns c = λ g t plays out m f fs z e is_named r. turn.return_turns g t plays out m f fs z e is_named r
