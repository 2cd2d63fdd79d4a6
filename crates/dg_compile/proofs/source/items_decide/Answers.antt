use Rattle.dg_compile.proofs.SourceLemmas.{items_decide}
use Rattle.dg_compile.proofs.source.items_decide.Goals as goal

pub returns : goal.returns
returns c = items_decide
