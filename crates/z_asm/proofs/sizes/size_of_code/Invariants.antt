use Rattle.std.proofs.Common.{◌≡◌, ◌+◌, ◌-◌, ◌^◌, ◌<◌, min, drop}
use Rattle.z_code.specs.Targets.{ops_size}
use Rattle.z_asm.specs.Layout.{code_size}
use Rattle.z_asm.proofs.sizes.size_of_code.Given as goal

abbrev pub invariant-loop-op : goal.invariant-loop-op
invariant-loop-op l = record {
  all : min (l.size + ops_size (drop l.op-index l.code.ops)) (2 ^ 64 - 1) ≡ min (code_size l.code) (2 ^ 64 - 1);
  word : l.size < 2 ^ 64;
}
