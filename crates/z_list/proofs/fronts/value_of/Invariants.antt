use Rattle.std.proofs.Common.{◌≡◌, ◌+◌, ◌*◌, ◌≤◌, take}
use Rattle.z_list.specs.inside.Numbers.{AreDigits, read_on}
use Rattle.z_list.proofs.fronts.value_of.Given as goal

abbrev pub invariant-loop-letter : goal.invariant-loop-letter
invariant-loop-letter l = record {
  digits : AreDigits (take l.letter-index l.text);
  value : l.value ≡ read_on 0 (take l.letter-index l.text);
  few : l.value ≤ 10 * l.most + 9;
}
