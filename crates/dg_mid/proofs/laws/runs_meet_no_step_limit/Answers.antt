use Rattle.dg_mid.proofs.Standing.{none_limited}
use Rattle.dg_mid.proofs.laws.runs_meet_no_step_limit.Goals as goal

pub returns : goal.returns
returns c s typed k is = none_limited s typed k is
