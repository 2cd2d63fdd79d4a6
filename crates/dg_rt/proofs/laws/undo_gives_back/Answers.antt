use Rattle.dg_rt.proofs.Taking as taking
use Rattle.dg_rt.proofs.laws.undo_gives_back.Goals as goal

pub returns : goal.returns
returns c = λ p map sh is since all f w typed output drawn left S0 hb begun memory cells S x here le. taking.gives_back p map sh is since all f w typed output drawn left S0 hb begun memory cells S x here le
