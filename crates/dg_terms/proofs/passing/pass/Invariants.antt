use Rattle.std.proofs.Common.{◌≡◌, length}
use Rattle.dg_terms.specs.Passing.{rules_from}
use Rattle.dg_terms.proofs.passing.pass.Given as goal

abbrev pub invariant-rules : goal.invariant-rules
invariant-rules l = record { same : rules_from l.first l.rules ≡ rules_from l.first l.fn.rules }

abbrev pub decreases-rules : goal.decreases-rules
decreases-rules l = length l.rules
