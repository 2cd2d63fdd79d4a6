use Rattle.dg_compile.proofs.SourceLemmas.{compiles_one}
use Rattle.dg_compile.proofs.source.sources_have_one_answer.Goals as goal

pub returns : goal.returns
returns c = λ source. compiles_one source c.tokens_are_one.ensures c.items_are_one.ensures c.one_answer.ensures c.one_answer-2.ensures c.one_answer-3.ensures
