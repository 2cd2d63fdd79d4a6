use Rattle.std.proofs.Common.{◌≡◌, ◌+◌, drop}
use Rattle.dg_emit.specs.inside.Places.{bytes_in}
use Rattle.dg_emit.proofs.world.bytes_in.Given as goal

abbrev pub invariant-loop-place : goal.invariant-loop-place
invariant-loop-place l = l.bytes + bytes_in l.objects (drop l.place-index l.places) ≡ bytes_in l.objects l.places
