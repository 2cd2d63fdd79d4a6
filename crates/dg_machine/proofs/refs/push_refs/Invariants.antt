use Rattle.std.proofs.Common.{◌≡◌, ◌+◌, ◌-◌, ◌≤◌, ◌++◌, length, drop, vec_len, vec_capacity}
use Rattle.dg_machine.proofs.refs.push_refs.Given as goal

abbrev pub invariant-loop-value : goal.invariant-loop-value
invariant-loop-value l = record {
  items : l.to.items ++ drop l.value-index l.refs ≡ l.fn.to.items ++ l.refs;
  room : vec_len l.to + (length l.refs - l.value-index) ≤ vec_capacity l.to;
  capacity : vec_capacity l.to ≡ vec_capacity l.fn.to;
}
