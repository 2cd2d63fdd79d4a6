use Rattle.std.proofs.Common.{arith}
use Rattle.std.proofs.lemmas.List.{drop_more, drop_all}
use Rattle.dg_reader.proofs.distinct.are_new.Goals as goal

pub loop-part-preserved : goal.loop-part-preserved
loop-part-preserved c = grind (arith, drop_more)

pub returns-then-not-branch : goal.returns-then-not-branch
returns-then-not-branch c = grind (arith, drop_more)

pub returns : goal.returns
returns c = grind (arith, drop_all)
