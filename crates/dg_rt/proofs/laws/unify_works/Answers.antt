use Rattle.dg_rt.proofs.Unifying as unifying
use Rattle.dg_rt.proofs.laws.unify_works.Goals as goal

pub returns : goal.returns
returns c = λ g S m x y a b s s'. unifying.unify_works g S m x y a b s s'
