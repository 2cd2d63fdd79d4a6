use Rattle.dg_turn.proofs.FailTurn as turn
use Rattle.dg_turn.proofs.laws.fail_turns.Goals as goal

pub returns : goal.returns
returns c = λ t plays out m x xs call rules z e way ordered few r. turn.fail_turns t plays out m x xs call rules z e way ordered few r
