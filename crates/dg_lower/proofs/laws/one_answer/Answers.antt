use Rattle.dg_lower.proofs.AnswerLemmas.{lowered_one}
use Rattle.dg_lower.proofs.laws.one_answer.Goals as goal

pub returns : goal.returns
returns c = lowered_one
