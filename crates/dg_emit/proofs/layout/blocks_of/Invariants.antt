use Rattle.std.proofs.Common.{◌≡◌, ◌+◌, drop}
use Rattle.dg_emit.specs.Numbers.{blocks_size}
use Rattle.dg_emit.proofs.layout.blocks_of.Given as goal

abbrev pub invariant-loop-block : goal.invariant-loop-block
invariant-loop-block l = l.size + blocks_size (drop l.block-index l.blocks) ≡ blocks_size l.blocks
