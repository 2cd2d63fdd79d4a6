use Rattle.dg_meaning.proofs.Keeps.{keeps}
use Rattle.dg_meaning.proofs.engines_may_keep.Goals as goal

pub returns : goal.returns
returns c = keeps
