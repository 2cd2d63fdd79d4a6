use Rattle.dg_prelude.proofs.NameLemmas.{prelude_printable}
use Rattle.dg_prelude.proofs.laws.prelude_names_are_printable.Goals as goal

pub returns : goal.returns
returns c = prelude_printable
