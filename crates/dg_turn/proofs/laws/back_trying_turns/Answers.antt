use Rattle.dg_turn.proofs.TriedBack as proof
use Rattle.dg_turn.proofs.laws.back_trying_turns.Goals as goal

pub returns : goal.returns
returns c = proof.back_trying_turns
