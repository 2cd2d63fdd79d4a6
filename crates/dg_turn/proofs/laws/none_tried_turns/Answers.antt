use Rattle.dg_turn.proofs.TryTurn as proof
use Rattle.dg_turn.proofs.laws.none_tried_turns.Goals as goal

pub returns : goal.returns
returns c = proof.none_tried_turns
