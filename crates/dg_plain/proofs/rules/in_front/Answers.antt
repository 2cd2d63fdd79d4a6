use Rattle.std.proofs.Common.{arith}
use Rattle.std.proofs.lemmas.List.{map-append}
use Rattle.dg_plain.proofs.BranchLemmas.{front_append}
use Rattle.dg_plain.proofs.rules.in_front.Goals as goal

pub returns : goal.returns
returns c = grind (arith, map-append, front_append)
