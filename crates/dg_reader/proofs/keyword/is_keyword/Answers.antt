use Rattle.std.proofs.Common.{arith}
use Rattle.dg_reader.proofs.Keys.{is_valued, is_bare}
use Rattle.dg_reader.proofs.keyword.is_keyword.Goals as goal

pub returns-then-is_some : goal.returns-then-is_some
returns-then-is_some c = grind (arith, is_valued)

pub returns-else-is_some : goal.returns-else-is_some
returns-else-is_some c = grind (arith, is_valued, is_bare)
