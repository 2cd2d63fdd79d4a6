use Rattle.std.proofs.Common.{◌≡◌, length}
use Rattle.dg_machine.specs.Passing.{codes_from}
use Rattle.dg_machine.proofs.passing.pass.Given as goal

abbrev pub invariant-rules : goal.invariant-rules
invariant-rules l = record { same : codes_from l.first l.rules ≡ codes_from l.first l.fn.rules }

abbrev pub decreases-rules : goal.decreases-rules
decreases-rules l = length l.rules
