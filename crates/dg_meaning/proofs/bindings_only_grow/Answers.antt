use Rattle.dg_meaning.proofs.Bindings.{binds_along}
use Rattle.dg_meaning.proofs.bindings_only_grow.Goals as goal

pub returns : goal.returns
returns c = binds_along
