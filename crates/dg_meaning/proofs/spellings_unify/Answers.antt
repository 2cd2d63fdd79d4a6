use Rattle.dg_meaning.proofs.Spellings.{spellings_unify}
use Rattle.dg_meaning.proofs.spellings_unify.Goals as goal

pub returns : goal.returns
returns c = spellings_unify
