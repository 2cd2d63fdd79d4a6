use Rattle.dg_rt.proofs.Unwinding as unwinding
use Rattle.dg_rt.proofs.laws.undo_unwinds.Goals as goal

pub returns : goal.returns
returns c = λ p map f w typed output drawn old newer memory cells x h e le on small. unwinding.undo_works p map f w typed output drawn old newer memory cells x h e le on small
