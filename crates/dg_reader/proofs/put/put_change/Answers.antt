use Rattle.std.proofs.Common.{arith}
use Rattle.std.proofs.lemmas.List.{reverse-append}
use Rattle.dg_reader.proofs.put.put_change.Goals as goal

pub returns-in_ok-changes-in-Some-BehindNow : goal.returns-in_ok-changes-in-Some-BehindNow
returns-in_ok-changes-in-Some-BehindNow c = grind (arith, reverse-append)

pub returns-in_ok-one_more_change-in-Some-InChanges : goal.returns-in_ok-one_more_change-in-Some-InChanges
returns-in_ok-one_more_change-in-Some-InChanges c = grind (arith, reverse-append)

pub returns-in-Some : goal.returns-in-Some
returns-in-Some c = grind (arith, reverse-append)
