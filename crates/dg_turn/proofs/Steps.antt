-- Counts of instructions, one behind another.
use Rattle.std.proofs.Common.{◌≡◌, ℕ, ◌+◌, arith}
use Rattle.dg_rt.specs.inside.Walks.{steps}
use Rattle.dg_rt.proofs.UnifySteps.{steps_are}

pub steps_both : (j k m : ℕ) → steps j (steps k m) ≡ steps (j + k) m
steps_both j k m = let a = steps_are j (steps k m) in let b = steps_are k m in let c = steps_are (j + k) m in omega arith
