use Rattle.dg_turn.proofs.SeekTurn as proof
use Rattle.dg_turn.proofs.laws.seek_turns.Goals as goal

pub returns : goal.returns
returns c = proof.seek_turns
