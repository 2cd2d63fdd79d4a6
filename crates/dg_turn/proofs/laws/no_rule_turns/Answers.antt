use Rattle.dg_turn.proofs.StopTurn as turn
use Rattle.dg_turn.proofs.laws.no_rule_turns.Goals as goal

pub returns : goal.returns
returns c = λ t plays out m z none r. turn.no_rule_turns t plays out m z none r
