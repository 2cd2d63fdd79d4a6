use Rattle.std.proofs.Common.{◌≡◌, ◌+◌, ◌-◌, ◌≤◌, ◌++◌, length, drop, vec_len, vec_capacity}
use Rattle.dg_unify.specs.Slots.{letter_slots}
use Rattle.dg_unify.proofs.room.push_letters.Given as goal

abbrev pub invariant-loop-letter : goal.invariant-loop-letter
invariant-loop-letter l = record {
  items : l.slots.items ++ letter_slots (drop l.letter-index l.spelling) ≡ l.fn.slots.items ++ letter_slots l.spelling;
  room : vec_len l.slots + (length l.spelling - l.letter-index) ≤ vec_capacity l.slots;
  capacity : vec_capacity l.slots ≡ vec_capacity l.fn.slots;
}
