use Rattle.std.proofs.Common.{◌≡◌, ◌++◌, drop, length, map}
use Rattle.dg_base.specs.declared.program.ClosureBody.{ClosureBody}
use Rattle.dg_story.proofs.building.captures_table.Given as goal

abbrev pub invariant-loop-closure : goal.invariant-loop-closure
invariant-loop-closure l =
    l.bytes ++ map (λ (c : ClosureBody). length c.captured) (drop l.closure-index l.closures) ≡ map (λ (c : ClosureBody). length c.captured) l.closures
