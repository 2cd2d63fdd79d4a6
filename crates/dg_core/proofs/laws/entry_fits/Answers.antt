use Rattle.dg_core.proofs.AskLemmas.{entry_fits}
use Rattle.dg_core.proofs.laws.entry_fits.Goals as goal

pub returns : goal.returns
returns c = entry_fits
