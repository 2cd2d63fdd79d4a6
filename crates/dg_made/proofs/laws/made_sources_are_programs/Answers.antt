use Rattle.dg_made.proofs.Whole.{made_compiles}
use Rattle.dg_made.proofs.laws.made_sources_are_programs.Goals as goal

pub returns : goal.returns
returns c = made_compiles c.tokens_are_one.ensures c.items_are_one.ensures c.one_answer.ensures c.one_answer-2.ensures
