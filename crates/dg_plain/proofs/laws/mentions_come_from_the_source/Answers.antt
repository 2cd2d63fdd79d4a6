use Rattle.dg_plain.proofs.ComesLemmas.{mentions_come}
use Rattle.dg_plain.proofs.laws.mentions_come_from_the_source.Goals as goal

pub returns : goal.returns
returns c = mentions_come
