use Rattle.dg_rt.proofs.Fitting as fitting
use Rattle.dg_rt.proofs.laws.runtime_fits.Goals as goal

pub returns : goal.returns
returns c = fitting.runtime_fits
