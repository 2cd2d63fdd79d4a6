use Rattle.std.proofs.Common.{[]}
use Rattle.dg_put.specs.Put.{in_item, level}
use Rattle.dg_access.proofs.CarryLemmas.{named}
use Rattle.dg_access.proofs.laws.declared_heads_keep_names.Goals as goal

pub returns : goal.returns
returns c = named (level [] 0 0) in_item 0
