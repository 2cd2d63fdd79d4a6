use Rattle.dg_scopes.proofs.VariableLemmas.{rule_small}
use Rattle.dg_scopes.proofs.laws.rules_are_small.Goals as goal

pub returns : goal.returns
returns c = rule_small
