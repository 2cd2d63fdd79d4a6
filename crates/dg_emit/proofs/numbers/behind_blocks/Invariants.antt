use Rattle.std.proofs.Common.{◌≡◌, ◌+◌, drop}
use Rattle.dg_emit.specs.Numbers.{blocks_size}
use Rattle.dg_emit.proofs.numbers.behind_blocks.Given as goal

abbrev pub invariant-loop-block : goal.invariant-loop-block
invariant-loop-block l = l.next + blocks_size (drop l.block-index l.blocks) ≡ l.number + blocks_size l.blocks
