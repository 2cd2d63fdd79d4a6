use Rattle.std.specs.Prelude.{None}
use Rattle.dg_plain.proofs.LeftLemmas.{items_plain}
use Rattle.dg_plain.proofs.laws.nothing_is_left.Goals as goal

pub returns : goal.returns
returns c = items_plain None
