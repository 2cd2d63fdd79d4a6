use Rattle.dg_turn.proofs.NowKinds as turn
use Rattle.dg_turn.proofs.laws.now_turns.Goals as goal

pub returns : goal.returns
returns c = turn.now_turns
