use Rattle.dg_fits.proofs.Suits.{suits}
use Rattle.dg_fits.proofs.laws.codes_suit.Goals as goal

pub returns : goal.returns
returns c = suits
