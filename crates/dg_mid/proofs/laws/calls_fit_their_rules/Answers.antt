use Rattle.dg_mid.proofs.CallsFit.{all_fit}
use Rattle.dg_mid.proofs.laws.calls_fit_their_rules.Goals as goal

pub returns : goal.returns
returns c g code limits codes sound n few typed k = all_fit g n code limits codes sound few typed k
