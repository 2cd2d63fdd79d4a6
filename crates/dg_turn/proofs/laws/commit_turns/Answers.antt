use Rattle.dg_turn.proofs.CommitTurn as turn
use Rattle.dg_turn.proofs.laws.commit_turns.Goals as goal

pub returns : goal.returns
returns c = λ t plays out x m z place places behind there e agrees r. turn.commit_turns t plays out x m z place places behind there e agrees r
