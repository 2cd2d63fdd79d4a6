use Rattle.std.proofs.Common.{◌≡◌, length}
use Rattle.dg_single.specs.Plain.{rules_fit}
use Rattle.dg_single.proofs.set.rules_fit.Given as goal

abbrev pub invariant-rules : goal.invariant-rules
invariant-rules l = rules_fit l.set l.rules ≡ rules_fit l.set l.fn.rules

abbrev pub decreases-rules : goal.decreases-rules
decreases-rules l = length l.rules
