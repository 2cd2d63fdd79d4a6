use Rattle.std.proofs.Common.{◌≡◌, ◌≤◌, ◌+◌, ◌*◌, drop}
use Rattle.dg_fits.specs.Sizes.{places_size}
use Rattle.dg_story.proofs.counting.world_fits.Given as goal

abbrev pub invariant-loop-place : goal.invariant-loop-place
invariant-loop-place l = record {
  sum : l.size + places_size l.objects (drop l.place-index l.places) ≡ places_size l.objects l.places;
  few : l.size ≤ 131070 * l.place-index;
}
