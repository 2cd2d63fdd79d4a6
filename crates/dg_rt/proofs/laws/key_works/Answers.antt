use Rattle.dg_rt.proofs.Keying as keying
use Rattle.dg_rt.proofs.laws.key_works.Goals as goal

pub returns : goal.returns
returns c = keying.key_works
