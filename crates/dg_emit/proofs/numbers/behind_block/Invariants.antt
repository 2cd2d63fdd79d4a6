use Rattle.std.proofs.Common.{◌≡◌, ◌+◌, drop}
use Rattle.dg_emit.specs.Numbers.{routines_of_ops}
use Rattle.dg_emit.proofs.numbers.behind_block.Given as goal

abbrev pub invariant-loop-op : goal.invariant-loop-op
invariant-loop-op l = l.next + routines_of_ops (drop l.op-index l.ops) ≡ l.number + routines_of_ops l.ops
