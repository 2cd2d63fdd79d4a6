use Rattle.dg_laid.proofs.Standing as standing
use Rattle.dg_laid.proofs.laws.blocks_stand.Goals as goal

pub returns : goal.returns
returns c = standing.blocks_stand
