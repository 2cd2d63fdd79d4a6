use Rattle.dg_rt.proofs.Variables as variables
use Rattle.dg_rt.proofs.laws.var_works.Goals as goal

pub returns : goal.returns
returns c = variables.var_works
