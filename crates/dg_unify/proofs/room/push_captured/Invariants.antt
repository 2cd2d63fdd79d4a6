use Rattle.std.proofs.Common.{◌≡◌, ◌+◌, ◌-◌, ◌≤◌, ◌++◌, length, drop, vec_len, vec_capacity}
use Rattle.dg_unify.specs.Slots.{captured_slots}
use Rattle.dg_unify.proofs.room.push_captured.Given as goal

abbrev pub invariant-loop-value : goal.invariant-loop-value
invariant-loop-value l = record {
  items : l.slots.items ++ captured_slots (drop l.value-index l.captured) ≡ l.fn.slots.items ++ captured_slots l.captured;
  room : vec_len l.slots + (length l.captured - l.value-index) ≤ vec_capacity l.slots;
  capacity : vec_capacity l.slots ≡ vec_capacity l.fn.slots;
}
