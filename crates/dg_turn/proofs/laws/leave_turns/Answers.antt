use Rattle.dg_turn.proofs.CommitTurn as turn
use Rattle.dg_turn.proofs.laws.leave_turns.Goals as goal

pub returns : goal.returns
returns c = λ t plays out x m z place places behind there e agrees r. turn.leave_turns t plays out x m z place places behind there e agrees r
