use Rattle.dg_mid.proofs.Whole.{is_at}
use Rattle.dg_mid.proofs.laws.code_runs_as_searched.Goals as goal

pub returns : goal.returns
returns c g code limits codes typed k = is_at g code limits codes typed k
