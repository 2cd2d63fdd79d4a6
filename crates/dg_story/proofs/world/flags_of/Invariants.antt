use Rattle.std.proofs.Common.{◌≡◌, ◌++◌, drop}
use Rattle.dg_story.specs.inside.World.{world_flags}
use Rattle.dg_story.proofs.world.flags_of.Given as goal

abbrev pub invariant-loop-place : goal.invariant-loop-place
invariant-loop-place l = l.bytes ++ world_flags l.objects (drop l.place-index l.places) ≡ world_flags l.objects l.places
