use Rattle.std.proofs.Common.{arith}
use Rattle.std.proofs.lemmas.List.{drop_more, drop_all, take_all, length-drop}
use Rattle.dg_reader.proofs.Views.{word_seen, value_seen}
use Rattle.dg_reader.proofs.heads.has_one_start.Goals as goal

pub returns-in-Value : goal.returns-in-Value
returns-in-Value c = grind (arith, drop_more, take_all, length-drop, value_seen)

pub loop-at-preserved : goal.loop-at-preserved
loop-at-preserved c = grind (arith, drop_more, word_seen)

pub loop-at-smaller : goal.loop-at-smaller
loop-at-smaller c = omega arith

pub returns : goal.returns
returns c = grind (arith, drop_all)
