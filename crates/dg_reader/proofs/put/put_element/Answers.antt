use Rattle.std.proofs.Common.{arith}
use Rattle.std.proofs.lemmas.List.{reverse-append}
use Rattle.dg_reader.proofs.put.put_element.Goals as goal

pub returns-in-Some-InList : goal.returns-in-Some-InList
returns-in-Some-InList c = grind (arith, reverse-append)

pub returns-in-Some-InTail : goal.returns-in-Some-InTail
returns-in-Some-InTail c = grind (arith, reverse-append)

pub returns-in-Some : goal.returns-in-Some
returns-in-Some c = grind (arith, reverse-append)
