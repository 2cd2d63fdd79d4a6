use Rattle.dg_names.proofs.AmongLemmas.{mentions_among}
use Rattle.dg_names.proofs.laws.mentions_are_among.Goals as goal

pub returns : goal.returns
returns c = mentions_among
