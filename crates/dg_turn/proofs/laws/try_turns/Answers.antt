use Rattle.dg_turn.proofs.TryTurn as proof
use Rattle.dg_turn.proofs.laws.try_turns.Goals as goal

pub returns : goal.returns
returns c = proof.try_turns
