use Rattle.std.proofs.Common.{◌≡◌, ◌+◌, ◌++◌, drop}
use Rattle.dg_emit.specs.Numbers.{blocks_size}
use Rattle.dg_emit.specs.Code.{blocks_routines, BlocksFit}
use Rattle.dg_emit.proofs.code.CodeWriter.put_blocks.Given as goal

abbrev pub invariant-loop-block : goal.invariant-loop-block
invariant-loop-block l =
    (l.all ++ blocks_routines l.self.writer.program.now l.self.numbers.now l.next (drop l.block-index l.blocks)
    ≡ l.initial.all ++ blocks_routines l.self.writer.program.now l.self.numbers.now l.number l.blocks)
    × (l.next + blocks_size (drop l.block-index l.blocks) ≡ l.number + blocks_size l.blocks)
    × BlocksFit l.self.writer.program.now (drop l.block-index l.blocks)
