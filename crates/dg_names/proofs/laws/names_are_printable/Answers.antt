use Rattle.dg_names.proofs.AmongLemmas.{printable}
use Rattle.dg_names.proofs.laws.names_are_printable.Goals as goal

pub returns : goal.returns
returns c = printable
