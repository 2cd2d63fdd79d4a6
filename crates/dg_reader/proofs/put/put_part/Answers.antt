use Rattle.std.proofs.Common.{arith}
use Rattle.std.proofs.lemmas.List.{reverse-append}
use Rattle.dg_reader.proofs.put.put_part.Goals as goal

pub returns-in_ok-one_more_part-in-Some-InHead : goal.returns-in_ok-one_more_part-in-Some-InHead
returns-in_ok-one_more_part-in-Some-InHead c = grind (arith, reverse-append)

pub returns-in_ok-one_more_part-in-Some-InNested : goal.returns-in_ok-one_more_part-in-Some-InNested
returns-in_ok-one_more_part-in-Some-InNested c = grind (arith, reverse-append)

pub returns-in_ok-one_more_part-in-Some-InQuery : goal.returns-in_ok-one_more_part-in-Some-InQuery
returns-in_ok-one_more_part-in-Some-InQuery c = grind (arith, reverse-append)

pub returns-in_ok-one_more_part-in-Some-InChange : goal.returns-in_ok-one_more_part-in-Some-InChange
returns-in_ok-one_more_part-in-Some-InChange c = grind (arith, reverse-append)

pub returns-in-Some : goal.returns-in-Some
returns-in-Some c = grind (arith, reverse-append)
