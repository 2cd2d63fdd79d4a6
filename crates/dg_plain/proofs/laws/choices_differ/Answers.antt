use Rattle.dg_plain.proofs.NameLemmas.{chosen_differ}
use Rattle.dg_plain.proofs.laws.choices_differ.Goals as goal

pub returns : goal.returns
returns c = chosen_differ
