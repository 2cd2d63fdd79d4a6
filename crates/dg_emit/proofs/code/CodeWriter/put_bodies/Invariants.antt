use Rattle.std.proofs.Common.{◌≡◌, ◌++◌, length}
use Rattle.dg_emit.specs.Bodies.{bodies_routines}
use Rattle.dg_emit.specs.inside.Parts.{PartsFit, parts_routines, parts_weight}
use Rattle.dg_emit.proofs.code.CodeWriter.put_bodies.Given as goal

abbrev pub invariant-loop-part : goal.invariant-loop-part
invariant-loop-part l =
    (l.all ++ parts_routines l.self.numbers.now l.left
    ≡ l.initial.all ++ bodies_routines l.self.numbers.now (length l.bodies) l.number 0 l.bodies)
    × PartsFit l.left

abbrev pub decreases-loop-part : goal.decreases-loop-part
decreases-loop-part l = parts_weight l.left
