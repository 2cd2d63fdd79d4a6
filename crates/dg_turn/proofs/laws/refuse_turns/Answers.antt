use Rattle.dg_turn.proofs.CommitTurn as turn
use Rattle.dg_turn.proofs.laws.refuse_turns.Goals as goal

pub returns : goal.returns
returns c = λ t plays out x m z place places there e agrees r. turn.refuse_turns t plays out x m z place places there e agrees r
