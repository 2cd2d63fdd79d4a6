use Rattle.std.proofs.Common.{◌≡◌, ◌++◌, map, take, drop, Option, None}
use Rattle.dg_base.specs.declared.cells.Simple.{Simple}
use Rattle.dg_world.proofs.table.empty.Given as goal

abbrev pub invariant-loop-slot : goal.invariant-loop-slot
invariant-loop-slot l = l.slots ≡ map (λ (s : Option Simple). None) (take l.slot-index l.fn.slots) ++ drop l.slot-index l.fn.slots
