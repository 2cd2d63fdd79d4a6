use Rattle.dg_plain.proofs.NameLemmas.{unnamed_differ}
use Rattle.dg_plain.proofs.laws.unnamed_variables_differ.Goals as goal

pub returns : goal.returns
returns c = unnamed_differ
