use Rattle.std.proofs.Common.{drop}
use Rattle.dg_fits.specs.Sizes.{set_size}
use Rattle.dg_story.specs.inside.Counting.{GoesOn}
use Rattle.dg_story.proofs.counting.Count.places.Given as goal

abbrev pub invariant-loop-place : goal.invariant-loop-place
invariant-loop-place l = GoesOn (set_size (l.places)) (set_size (drop l.place-index l.places)) l.initial.self l.self
