use Rattle.std.proofs.Common.{◌≡◌, ◌+◌, map, take, length}
use Rattle.dg_world.specs.Lists.{joined}
use Rattle.dg_world.specs.Starts.{starting_cells}
use Rattle.dg_world.proofs.world.World.starts_within.Given as goal

abbrev pub invariant-loop-place : goal.invariant-loop-place
invariant-loop-place l = l.room + length (joined (map starting_cells (take l.place-index l.places))) ≡ l.keep
