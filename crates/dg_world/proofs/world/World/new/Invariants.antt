use Rattle.std.proofs.Common.{◌≡◌, map, take}
use Rattle.dg_world.specs.Starts.{starting_table, starting_cells}
use Rattle.dg_world.proofs.world.World.new.Given as goal

abbrev pub invariant-loop-place : goal.invariant-loop-place
invariant-loop-place l = record { tables : l.tables.items ≡ map (starting_table l.objects) (take l.place-index l.places); lists : l.area.lists ≡ map starting_cells (take l.place-index l.places); keep : l.area.keep ≡ l.keep }
