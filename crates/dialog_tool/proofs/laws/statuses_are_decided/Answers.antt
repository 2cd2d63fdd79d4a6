use Rattle.dialog_tool.proofs.DecideLemmas.{decided}
use Rattle.dialog_tool.proofs.laws.statuses_are_decided.Goals as goal

pub returns : goal.returns
returns c = λ call result. decided call result c.sources_have_one_answer.ensures
