use Rattle.std.proofs.Common.{◌≡◌, ◌+◌, ◌<◌, ◌^◌, ◌++◌, drop}
use Rattle.z_code.specs.Targets.{ops_size, spots_from}
use Rattle.z_asm.proofs.sizes.spots.Given as goal

abbrev pub invariant-loop-op : goal.invariant-loop-op
invariant-loop-op l = record { rest : spots_from l.at l.ops ≡ l.found ++ spots_from l.here (drop l.op-index l.ops); few : l.here + ops_size (drop l.op-index l.ops) < 2 ^ 32 }
