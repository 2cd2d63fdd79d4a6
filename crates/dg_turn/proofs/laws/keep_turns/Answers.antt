use Rattle.dg_turn.proofs.KeepTurn as proof
use Rattle.dg_turn.proofs.laws.keep_turns.Goals as goal

pub returns : goal.returns
returns c = proof.keep_turns
