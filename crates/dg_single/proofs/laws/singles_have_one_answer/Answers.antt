use Rattle.dg_single.proofs.OneAnswer.{one_answer}
use Rattle.dg_single.proofs.laws.singles_have_one_answer.Goals as goal

pub returns : goal.returns
returns c = one_answer
