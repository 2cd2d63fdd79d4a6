use Rattle.std.proofs.Common.{arith}
use Rattle.dg_reader.proofs.Keys.{is_valued}
use Rattle.dg_reader.proofs.keyword.close_valued.Goals as goal

pub returns : goal.returns
returns c = grind (arith, is_valued)

pub unreachable-requires : goal.unreachable-requires
unreachable-requires c = grind (arith, is_valued)
