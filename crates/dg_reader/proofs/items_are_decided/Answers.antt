use Rattle.dg_reader.proofs.Laws.{shape_decided}
use Rattle.dg_reader.proofs.items_are_decided.Goals as goal

pub returns : goal.returns
returns c = shape_decided
