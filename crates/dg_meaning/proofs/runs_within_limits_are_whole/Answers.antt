use Rattle.dg_meaning.proofs.Limits.{within_limits}
use Rattle.dg_meaning.proofs.runs_within_limits_are_whole.Goals as goal

pub returns : goal.returns
returns c = within_limits
