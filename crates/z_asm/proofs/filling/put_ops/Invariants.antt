use Rattle.std.proofs.Common.{◌≡◌, ◌+◌, ◌<◌, ◌^◌, ◌++◌, length, drop}
use Rattle.z_code.specs.Targets.{ops_size, spot_of, ops_bytes}
use Rattle.z_asm.specs.Layout.{names_at}
use Rattle.z_asm.specs.inside.Filled.{AreFilled}
use Rattle.z_asm.proofs.filling.put_ops.Given as goal

abbrev pub invariant-loop-op : goal.invariant-loop-op
invariant-loop-op l = record {
  rest : l.initial.out.items ++ ops_bytes (names_at l.names) (spot_of l.spots) (length l.initial.out.items) l.ops ≡ l.out.items ++ ops_bytes (names_at l.names) (spot_of l.spots) (length l.out.items) (drop l.op-index l.ops);
  within : length l.out.items + ops_size (drop l.op-index l.ops) < 2 ^ 32;
  filled : AreFilled (names_at l.names) (spot_of l.spots) (length l.out.items) (drop l.op-index l.ops);
}
