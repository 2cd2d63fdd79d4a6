use Rattle.dg_access.proofs.AnswerLemmas.{rewritten_few}
use Rattle.dg_access.proofs.laws.variables_are_few.Goals as goal

pub returns : goal.returns
returns c = rewritten_few
