use Rattle.dg_meaning.proofs.Starts.{start_over}
use Rattle.dg_meaning.proofs.starts_over_the_limit_show_it.Goals as goal

pub returns : goal.returns
returns c = start_over
