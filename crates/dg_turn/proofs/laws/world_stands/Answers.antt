use Rattle.dg_turn.proofs.Starts as starts
use Rattle.dg_turn.proofs.laws.world_stands.Goals as goal

pub returns : goal.returns
returns c = starts.world_stands
