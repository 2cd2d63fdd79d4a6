use Rattle.std.proofs.Common.{Some, ap, ◌∙◌}
use Rattle.dg_machine.proofs.terms.var_value.Goals as goal

pub returns-in-Some-clause-value : goal.returns-in-Some-clause-value
returns-in-Some-clause-value c vs at = c.in-Some.ensures.is vs at

pub returns-in-None-clause-value : goal.returns-in-None-clause-value
returns-in-None-clause-value c vs at = c.simple_value.ensures.value ∙ ap Some (c.in-None.ensures.is vs at)
