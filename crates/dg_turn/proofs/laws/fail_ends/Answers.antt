use Rattle.dg_turn.proofs.FailTurn as turn
use Rattle.dg_turn.proofs.laws.fail_ends.Goals as goal

pub returns : goal.returns
returns c = λ t plays out m z none r. turn.fail_ends t plays out m z none r
