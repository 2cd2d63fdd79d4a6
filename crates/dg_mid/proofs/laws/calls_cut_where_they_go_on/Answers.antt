use Rattle.dg_mid.proofs.Standing.{all_cut}
use Rattle.dg_mid.proofs.laws.calls_cut_where_they_go_on.Goals as goal

pub returns : goal.returns
returns c s typed k = all_cut s typed k
