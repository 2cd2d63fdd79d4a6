use Rattle.std.proofs.Common.{◌≡◌, drop}
use Rattle.dg_single.specs.Plain.{has_cut}
use Rattle.dg_single.proofs.plain.has_cut.Given as goal

abbrev pub invariant-loop-goal : goal.invariant-loop-goal
invariant-loop-goal l = has_cut (drop l.goal-index l.body) ≡ has_cut l.body
