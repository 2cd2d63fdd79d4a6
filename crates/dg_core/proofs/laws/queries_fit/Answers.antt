use Rattle.dg_core.proofs.AskLemmas.{query_fits}
use Rattle.dg_core.proofs.laws.queries_fit.Goals as goal

pub returns : goal.returns
returns c = query_fits
