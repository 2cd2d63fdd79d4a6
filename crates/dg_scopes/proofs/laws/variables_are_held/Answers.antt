use Rattle.dg_scopes.proofs.VariableLemmas.{all_held}
use Rattle.dg_scopes.proofs.laws.variables_are_held.Goals as goal

pub returns : goal.returns
returns c = all_held
