use Rattle.std.proofs.Common.{◌≡◌, ◌≤◌, ◌+◌, ◌*◌, drop}
use Rattle.dialog_tool.specs.Command.{digits_alone, value_behind}
use Rattle.dialog_tool.proofs.numbers.number_of.Given as goal

abbrev pub invariant-loop-c : goal.invariant-loop-c
invariant-loop-c l = record {
  bound : l.value ≤ 10 * l.most + 9;
  value : value_behind 0 l.digits ≡ value_behind l.value (drop l.c-index l.digits);
  digits : digits_alone l.digits ≡ digits_alone (drop l.c-index l.digits);
}
