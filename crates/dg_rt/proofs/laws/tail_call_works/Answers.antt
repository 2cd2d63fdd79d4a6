use Rattle.dg_rt.proofs.TailCalling as calling
use Rattle.dg_rt.proofs.laws.tail_call_works.Goals as goal

pub returns : goal.returns
returns c = calling.tail_call_works
