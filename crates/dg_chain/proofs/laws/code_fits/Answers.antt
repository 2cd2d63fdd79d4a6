use Rattle.dg_chain.proofs.Whole as whole
use Rattle.dg_chain.proofs.laws.code_fits.Goals as goal

pub returns : goal.returns
returns c = whole.code_fits
