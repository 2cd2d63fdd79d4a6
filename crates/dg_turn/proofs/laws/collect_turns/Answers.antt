use Rattle.dg_turn.proofs.CollectTurn as proof
use Rattle.dg_turn.proofs.laws.collect_turns.Goals as goal

pub returns : goal.returns
returns c = proof.collect_turns
