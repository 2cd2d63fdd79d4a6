use Rattle.dg_fits.proofs.Whole.{routines_fit}
use Rattle.dg_fits.proofs.laws.routines_fit.Goals as goal

pub returns : goal.returns
returns c = routines_fit
