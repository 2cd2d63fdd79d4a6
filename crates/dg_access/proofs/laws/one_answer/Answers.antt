use Rattle.dg_access.proofs.AnswerLemmas.{rewritten_one}
use Rattle.dg_access.proofs.laws.one_answer.Goals as goal

pub returns : goal.returns
returns c = rewritten_one
