use Rattle.dg_meaning.proofs.Solved.{solved}
use Rattle.dg_meaning.proofs.unification_goes_by_turns.Goals as goal

pub returns : goal.returns
returns c = solved
