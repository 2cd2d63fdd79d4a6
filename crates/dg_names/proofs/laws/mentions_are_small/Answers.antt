use Rattle.std.proofs.Common.{[]}
use Rattle.dg_names.proofs.AmongLemmas.{mentions_small}
use Rattle.dg_names.proofs.laws.mentions_are_small.Goals as goal

pub returns : goal.returns
returns c = λ is names h. mentions_small [] is h.0
