use Rattle.dg_turn.proofs.ListTurn as proof
use Rattle.dg_turn.proofs.laws.take_turns.Goals as goal

pub returns : goal.returns
returns c = proof.take_turns
