use Rattle.std.proofs.Common.{arith}
use Rattle.dg_reader.proofs.Views.{head_seen}
use Rattle.dg_reader.proofs.heads.keeps_head_rules.Goals as goal

pub returns-then-is_reserved : goal.returns-then-is_reserved
returns-then-is_reserved c = grind (arith, head_seen)

pub returns : goal.returns
returns c = grind (arith, head_seen)
