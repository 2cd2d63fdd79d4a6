use Rattle.std.proofs.Common.{◌≡◌, ◌+◌, drop}
use Rattle.dg_emit.specs.Numbers.{routines_of_ops}
use Rattle.dg_emit.proofs.numbers.routines_of_ops.Given as goal

abbrev pub invariant-loop-op : goal.invariant-loop-op
invariant-loop-op l = l.size + routines_of_ops (drop l.op-index l.ops) ≡ routines_of_ops l.ops
