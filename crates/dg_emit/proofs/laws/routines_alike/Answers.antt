use Rattle.dg_emit.proofs.Alike as alike
use Rattle.dg_emit.proofs.laws.routines_alike.Goals as goal

pub returns : goal.returns
returns c = alike.routines_alike
