use Rattle.dg_access.proofs.AnswerLemmas.{rewritten_open}
use Rattle.dg_access.proofs.laws.none_is_closed.Goals as goal

pub returns : goal.returns
returns c = rewritten_open
