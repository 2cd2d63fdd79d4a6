use Rattle.std.proofs.Common.{◌≡◌, map, take}
use Rattle.dg_base.specs.declared.program.ClosureBody.{ClosureBody}
use Rattle.dg_emit.proofs.outline.closures_like.Given as goal

abbrev pub invariant-loop-closure : goal.invariant-loop-closure
invariant-loop-closure l = map (λ (c : ClosureBody). c.captured) l.made ≡ map (λ (c : ClosureBody). c.captured) (take l.closure-index l.closures)
