use Rattle.dg_scopes.proofs.VariableLemmas.{all_small}
use Rattle.dg_scopes.proofs.laws.closures_are_small.Goals as goal

pub returns : goal.returns
returns c = all_small
