use Rattle.std.proofs.Common.{◌≡◌, ◌++◌, drop, map}
use Rattle.dg_turn.specs.Sites.{branch_acts}
use Rattle.dg_emit.specs.Numbers.{block_number}
use Rattle.dg_emit.proofs.code.CodeWriter.put_branches.Given as goal

abbrev pub invariant-loop-block : goal.invariant-loop-block
invariant-loop-block l =
    (l.body ++ branch_acts l.branch (map (block_number l.self.numbers.now) (drop l.block-index l.blocks)) l.behind
    ≡ l.initial.body ++ branch_acts 0 (map (block_number l.self.numbers.now) l.blocks) l.behind)
    × (l.branch ≡ l.block-index)
