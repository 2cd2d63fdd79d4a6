use Rattle.std.proofs.Common.{◌≡◌, map, take}
use Rattle.z_story.specs.Parts.{routine_code}
use Rattle.z_story.proofs.building.codes_of.Given as goal

abbrev pub invariant-loop-routine : goal.invariant-loop-routine
invariant-loop-routine l = l.codes ≡ map routine_code (take l.routine-index l.routines)
