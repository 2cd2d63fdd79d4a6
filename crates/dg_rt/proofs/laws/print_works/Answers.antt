use Rattle.dg_rt.proofs.PrintBound as bound
use Rattle.dg_rt.proofs.laws.print_works.Goals as goal

pub returns : goal.returns
returns c = bound.print_works
