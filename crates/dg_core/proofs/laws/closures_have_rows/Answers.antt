use Rattle.dg_core.proofs.RowLemmas.{rule_counted, rule_caught, rule_small}
use Rattle.dg_core.proofs.laws.closures_have_rows.Goals as goal

pub returns-clause-counted : goal.returns-clause-counted
returns-clause-counted c = rule_counted

pub returns-clause-caught : goal.returns-clause-caught
returns-clause-caught c = rule_caught (record {
  held = c.variables_are_held.ensures;
  closures = c.closures_are_small.ensures;
  rules = c.rules_are_small.ensures;
})

pub returns-clause-small : goal.returns-clause-small
returns-clause-small c = rule_small (record {
  held = c.variables_are_held.ensures;
  closures = c.closures_are_small.ensures;
  rules = c.rules_are_small.ensures;
})
