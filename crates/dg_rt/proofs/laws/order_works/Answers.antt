use Rattle.dg_rt.proofs.TwoNumbers as two
use Rattle.dg_rt.proofs.laws.order_works.Goals as goal

pub returns : goal.returns
returns c = two.order_works
