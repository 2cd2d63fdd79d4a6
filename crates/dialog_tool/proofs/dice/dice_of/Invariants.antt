use Rattle.std.proofs.Common.{◌≡◌, ◌≤◌, ◌-◌, ◌++◌, length}
use Rattle.dialog_tool.specs.layer.Dice.{generated, halves, dice_of}
use Rattle.dialog_tool.proofs.dice.dice_of.Given as goal

abbrev pub invariant-loop-words : goal.invariant-loop-words
invariant-loop-words l = record {
  within : length l.dice.items ≤ 1024;
  made : l.dice.items ++ halves (generated (1024 - length l.dice.items) l.words) ≡ dice_of l.seed;
}

abbrev pub decreases-loop-words : goal.decreases-loop-words
decreases-loop-words l = 1024 - length l.dice.items
