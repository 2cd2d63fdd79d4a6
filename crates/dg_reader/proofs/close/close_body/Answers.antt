use Rattle.std.proofs.Common.{arith}
use Rattle.std.proofs.lemmas.List.{reverse-append}
use Rattle.dg_reader.proofs.close.close_body.Goals as goal

pub returns-then-is_empty : goal.returns-then-is_empty
returns-then-is_empty c = grind (arith, reverse-append)

pub returns-in-Some-InChanges : goal.returns-in-Some-InChanges
returns-in-Some-InChanges c = grind (arith, reverse-append)

pub returns-in-Some : goal.returns-in-Some
returns-in-Some c = grind (arith, reverse-append)
