use Rattle.dg_scopes.proofs.FewLemmas.{small_few}
use Rattle.dg_scopes.proofs.laws.small_items_have_few_variables.Goals as goal

pub returns : goal.returns
returns c = small_few
