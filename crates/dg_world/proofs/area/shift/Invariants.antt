use Rattle.std.proofs.Common.{◌≡◌, ◌+◌, ◌-◌, ◌++◌, map, take, drop}
use Rattle.dg_world.proofs.area.shift.Given as goal

abbrev pub invariant-loop-start : goal.invariant-loop-start
invariant-loop-start l = l.starts ≡ map (λ s. s - l.gone + l.come) (take l.start-index l.fn.starts) ++ drop l.start-index l.fn.starts
