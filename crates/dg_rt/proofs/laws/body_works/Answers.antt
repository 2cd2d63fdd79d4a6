use Rattle.dg_rt.proofs.Bodies as bodies
use Rattle.dg_rt.proofs.laws.body_works.Goals as goal

pub returns : goal.returns
returns c = bodies.body_works
