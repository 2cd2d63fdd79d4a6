use Rattle.std.proofs.Common.{◌≡◌, ◌≤◌, ◌<◌, ◌+◌, [], length}
use Rattle.std.specs.Option.{option_map_or, IfNone}
use Rattle.dialog_tool.specs.Command.{between_commas, dice_of}
use Rattle.dialog_tool.proofs.DiceLemmas.{dice_behind}
use Rattle.dialog_tool.proofs.numbers.dice_of.Given as goal

abbrev pub invariant-loop-rest : goal.invariant-loop-rest
invariant-loop-rest l = record {
  most : length l.dice.items ≤ 1024;
  some : IfNone l.rest (0 < length l.dice.items);
  dice : dice_behind l.dice.items (option_map_or (λ rest. between_commas rest.now) l.rest []) ≡ dice_of l.word;
}

abbrev pub decreases-loop-rest : goal.decreases-loop-rest
decreases-loop-rest l = option_map_or (λ rest. length rest.now + 1) l.rest 0
