use Rattle.std.proofs.Common.{◌≡◌, ◌+◌, length, take, vec_capacity}
use Rattle.dg_machine.proofs.copies.fill.Given as goal

abbrev pub invariant-refs : goal.invariant-refs
invariant-refs l = record {
  before : take (length l.fn.to.items) l.to.items ≡ l.fn.to.items;
  count : length l.to.items ≡ length l.fn.to.items + l.counter;
  capacity : vec_capacity l.to ≡ vec_capacity l.fn.to;
}
