use Rattle.dg_turn.proofs.ReadGlobal as turn
use Rattle.dg_turn.proofs.laws.read_global_turns.Goals as goal

pub returns : goal.returns
returns c = turn.read_global_turns
