use Rattle.dg_meaning.proofs.Search.{run_goes_on}
use Rattle.dg_meaning.proofs.runs_are_cuts.Goals as goal

pub returns : goal.returns
returns c = run_goes_on
