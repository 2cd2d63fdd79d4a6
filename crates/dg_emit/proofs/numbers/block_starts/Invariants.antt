use Rattle.std.proofs.Common.{◌≡◌, ◌+◌, ◌++◌, drop}
use Rattle.dg_emit.specs.Numbers.{block_starts, blocks_size}
use Rattle.dg_emit.proofs.numbers.block_starts.Given as goal

abbrev pub invariant-loop-block : goal.invariant-loop-block
invariant-loop-block l =
    (l.starts ++ block_starts l.next (drop l.block-index l.blocks) ≡ block_starts l.number l.blocks)
    × (l.next + blocks_size (drop l.block-index l.blocks) ≡ l.number + blocks_size l.blocks)
