use Rattle.dg_plain.proofs.KeptLemmas.{named}
use Rattle.dg_plain.proofs.laws.plain_heads_keep_names.Goals as goal

pub returns : goal.returns
returns c = named
