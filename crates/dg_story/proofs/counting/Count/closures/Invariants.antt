use Rattle.std.proofs.Common.{drop}
use Rattle.dg_fits.specs.Sizes.{closures_size}
use Rattle.dg_story.specs.inside.Counting.{GoesOn}
use Rattle.dg_story.proofs.counting.Count.closures.Given as goal

abbrev pub invariant-loop-closure : goal.invariant-loop-closure
invariant-loop-closure l = GoesOn (closures_size (l.closures)) (closures_size (drop l.closure-index l.closures)) l.initial.self l.self
