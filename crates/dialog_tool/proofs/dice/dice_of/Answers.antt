use Rattle.std.proofs.Common.{◌-◌, length, arith, length-append}
use Rattle.dialog_tool.proofs.SeedLemmas.{made_more, all_made}
use Rattle.dialog_tool.proofs.dice.dice_of.Goals as goal

pub loop-words-preserved : goal.loop-words-preserved
loop-words-preserved c = record {
  within = first_of (omega (arith, c.in_ok-push.ensures.len), grind (arith, length-append, c.in_ok-push.ensures.items));
  made = made_more c.loop-words.dice.items _ _ c.loop-words.words _ c.next_word.result c.in_ok-push.ensures.items (omega arith) c.next_word.ensures c.loop-words.invariant.made;
}

pub returns-clause-dice : goal.returns-clause-dice
returns-clause-dice c = all_made _ _ (1024 - length c.loop-words.dice.items) c.loop-words.words (omega arith) c.loop-words.invariant.made
