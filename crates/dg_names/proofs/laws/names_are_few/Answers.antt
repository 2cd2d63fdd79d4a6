use Rattle.std.proofs.Common.{sym, subst}
use Rattle.dg_names.specs.Among.{AreFew}
use Rattle.dg_names.proofs.AmongLemmas.{names_few}
use Rattle.dg_names.proofs.laws.names_are_few.Goals as goal

pub returns : goal.returns
returns c = λ is names h. subst AreFew (sym h.1) (names_few is h.0)
