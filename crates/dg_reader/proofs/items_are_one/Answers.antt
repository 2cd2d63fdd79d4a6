use Rattle.dg_reader.proofs.ReadLemmas.{read_one}
use Rattle.dg_reader.proofs.items_are_one.Goals as goal

pub returns : goal.returns
returns c = read_one
