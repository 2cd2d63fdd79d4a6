use Rattle.dg_rt.proofs.Moving as moving
use Rattle.dg_rt.proofs.laws.move_works.Goals as goal

pub returns : goal.returns
returns c = moving.move_works
