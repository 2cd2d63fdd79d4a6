use Rattle.std.proofs.Common.{◌≡◌, ◌≤◌, ◌-◌, ◌++◌, length, take, drop}
use Rattle.dg_world.proofs.world.set_tables.Given as goal

abbrev pub invariant-tables : goal.invariant-tables
invariant-tables l = record { within : l.at ≤ length l.others; is : l.tables ≡ take l.at l.others ++ drop l.at l.fn.tables }

abbrev pub decreases-tables : goal.decreases-tables
decreases-tables l = length l.others - l.at
