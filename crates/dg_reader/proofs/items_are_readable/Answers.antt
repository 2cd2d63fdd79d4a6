use Rattle.dg_reader.proofs.ReadableLemmas.{readable_items}
use Rattle.dg_reader.proofs.items_are_readable.Goals as goal

pub returns : goal.returns
returns c = readable_items
