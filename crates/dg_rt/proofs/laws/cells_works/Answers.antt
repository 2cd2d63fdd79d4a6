use Rattle.dg_rt.proofs.Counting as counting
use Rattle.dg_rt.proofs.laws.cells_works.Goals as goal

pub returns : goal.returns
returns c = counting.cells_works
