use Rattle.std.proofs.Common.{◌≡◌, List, Bool, drop}
use Rattle.std.specs.Prelude.{◌&&◌}
use Rattle.dg_meaning.specs.Quiet.{have_quiet_bodies}
use Rattle.dg_quiet.specs.inside.Left.{left_quiet}
use Rattle.dg_quiet.proofs.asks.bodies_of.Given as goal

abbrev pub invariant-loop-rule : goal.invariant-loop-rule
invariant-loop-rule l = (set : List Bool) → (left_quiet set l.left.items && have_quiet_bodies set (drop l.rule-index l.rules)) ≡ have_quiet_bodies set l.rules
