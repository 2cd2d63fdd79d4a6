use Rattle.dg_access.proofs.AnswerLemmas.{rewritten_closed}
use Rattle.dg_access.proofs.laws.closures_are_few.Goals as goal

pub returns : goal.returns
returns c = rewritten_closed
