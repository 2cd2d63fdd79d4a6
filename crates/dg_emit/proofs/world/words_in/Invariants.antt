use Rattle.std.proofs.Common.{◌≡◌, ◌+◌, drop}
use Rattle.dg_emit.specs.inside.Places.{words_in}
use Rattle.dg_emit.proofs.world.words_in.Given as goal

abbrev pub invariant-loop-place : goal.invariant-loop-place
invariant-loop-place l = l.words + words_in l.objects (drop l.place-index l.places) ≡ words_in l.objects l.places
