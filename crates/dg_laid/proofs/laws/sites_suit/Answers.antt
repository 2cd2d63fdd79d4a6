use Rattle.dg_laid.proofs.Siting as siting
use Rattle.dg_laid.proofs.laws.sites_suit.Goals as goal

pub returns : goal.returns
returns c = siting.sites_suit
