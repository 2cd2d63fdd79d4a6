use Rattle.dg_terms.proofs.PassedRules.{passes_all}
use Rattle.dg_terms.proofs.passing.pass.Goals as goal

pub returns : goal.returns
returns c = passes_all c.args.first c.args.rules.now c.rules.rules.now c.in_default.len_below c.rules.invariant.same
