use Rattle.std.proofs.Common.{◌≡◌, ◌+◌, ◌++◌, length}
use Rattle.dg_emit.specs.Numbers.{routines_of_ops}
use Rattle.dg_emit.specs.Code.{ops_routines, OpsFit}
use Rattle.dg_emit.proofs.code.CodeWriter.put_ops.Given as goal

abbrev pub invariant-loop-left : goal.invariant-loop-left
invariant-loop-left l =
    (l.all ++ ops_routines l.self.writer.program.now l.self.numbers.now l.next l.left
    ≡ l.initial.all ++ ops_routines l.self.writer.program.now l.self.numbers.now l.number l.ops)
    × (l.next + routines_of_ops l.left ≡ l.number + routines_of_ops l.ops)
    × OpsFit l.self.writer.program.now l.left

abbrev pub decreases-loop-left : goal.decreases-loop-left
decreases-loop-left l = length l.left
