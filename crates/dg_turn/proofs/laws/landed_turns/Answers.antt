use Rattle.dg_turn.proofs.LandedTurn as proof
use Rattle.dg_turn.proofs.laws.landed_turns.Goals as goal

pub returns : goal.returns
returns c = proof.landed_turns
