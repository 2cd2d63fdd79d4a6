use Rattle.dg_turn.proofs.PaidWorld as world
use Rattle.dg_turn.proofs.laws.world_is_paid.Goals as goal

pub returns : goal.returns
returns c = world.world_is_paid
