use Rattle.dg_turn.proofs.Terms as terms
use Rattle.dg_turn.proofs.laws.terms_work.Goals as goal

pub returns : goal.returns
returns c = terms.terms_work
