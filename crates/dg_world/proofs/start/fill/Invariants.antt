use Rattle.std.proofs.Common.{◌≡◌, ◌≤◌, length, drop}
use Rattle.dg_world.specs.Starts.{filled}
use Rattle.dg_world.proofs.start.fill.Given as goal

abbrev pub invariant-loop-at : goal.invariant-loop-at
invariant-loop-at l = record { within : l.at ≤ length l.starts; is : l.table ≡ record l.fn.table { slots = filled (drop l.at l.starts) l.fn.table.slots } }

abbrev pub decreases-loop-at : goal.decreases-loop-at
decreases-loop-at l = l.at
