use Rattle.dg_mid.proofs.Falling.{step_falls}
use Rattle.dg_mid.proofs.laws.steps_come_to_a_goal.Goals as goal

pub returns : goal.returns
returns c s now tidy e on = step_falls s now tidy e on
